-- The types whose contents have a rule (rule 4.1). The content of any other type is opaque: it can be any bytes.
use Rattle.std.specs.Prelude.{ℕ, cond, List, [], ◌∷◌}
use Rattle.fields.specs.Bytes.{same}
use Rattle.content.specs.declared.Kind.{Kind}
use Rattle.content.specs.declared.Kind.TheVariants.{Transform, Position, Image, Bind, Other}

-- "TRANSFORM", "POSITION", "IMAGE", "BIND"
abbrev pub transform_text : List ℕ
transform_text = 84 ∷ 82 ∷ 65 ∷ 78 ∷ 83 ∷ 70 ∷ 79 ∷ 82 ∷ 77 ∷ []

abbrev pub position_text : List ℕ
position_text = 80 ∷ 79 ∷ 83 ∷ 73 ∷ 84 ∷ 73 ∷ 79 ∷ 78 ∷ []

abbrev pub image_text : List ℕ
image_text = 73 ∷ 77 ∷ 65 ∷ 71 ∷ 69 ∷ []

abbrev pub bind_text : List ℕ
bind_text = 66 ∷ 73 ∷ 78 ∷ 68 ∷ []

-- the kind of a type, by its exact text
unfoldable pub kind_of : List ℕ → Kind
kind_of t =
    cond (same t transform_text) Transform
    (cond (same t position_text) Position
    (cond (same t image_text) Image
    (cond (same t bind_text) Bind Other)))
