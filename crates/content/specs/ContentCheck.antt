-- The number (rule 5.1) for a content, by its type: 8 for a TRANSFORM or a POSITION, 9 for an IMAGE, 10 for a BIND's layout, 11 for a BIND
-- of level 5, 0 for none. And the mark (rule 13.2): is every CTYPE in it clean, at every level?
use Rattle.std.specs.Prelude.{ℕ, zero, suc, ◌-◌, Bool, true, false, ◌&&◌, List, take, drop}
use Rattle.fields.specs.Checks.{or_else}
use Rattle.fields.specs.Answer.{Checked, checked}
use Rattle.pose.specs.TransformReader.{transform_fault}
use Rattle.pose.specs.PositionReader.{position_fault}
use Rattle.image.specs.ImageReader.{image_fault}
use Rattle.bind_layout.specs.Children.{child_header_size}
use Rattle.bind_layout.specs.BindLayout.{child_count, headers, data_of, type_of, size_of, after_block, layout_fault, types_clean}
use Rattle.content.specs.declared.Kind.{Kind}
use Rattle.content.specs.declared.Kind.TheVariants.{Transform, Position, Image, Bind, Other}
use Rattle.content.specs.Kinds.{kind_of}

-- a content of this kind, where `bind` judges a BIND
abbrev pub kind_fault : (List ℕ → ℕ) → Kind → List ℕ → ℕ
kind_fault bind Transform s = transform_fault s
kind_fault bind Position s = position_fault s
kind_fault bind Image s = image_fault s
kind_fault bind Bind s = bind s
kind_fault bind Other s = 0

-- the first fault of k children, by what is left of the headers and of the data
unfoldable pub children_fault : (List ℕ → ℕ) → ℕ → List ℕ → List ℕ → ℕ
children_fault bind zero h d = 0
children_fault bind (suc k) h d =
    or_else (kind_fault bind (kind_of (type_of h)) (take (size_of h) d)) (children_fault bind k (drop child_header_size h) (after_block (size_of h) d))

-- a BIND where so many levels are left (rule 5.4): 11 where none is, whatever its bytes; else its layout, then its children in order
unfoldable pub bind_fault : ℕ → List ℕ → ℕ
bind_fault zero s = 11
bind_fault (suc levels) s = or_else (layout_fault s) (children_fault (bind_fault levels) (child_count s) (headers s) (data_of s))

-- a content of the type with this text
unfoldable pub content_fault : ℕ → List ℕ → List ℕ → ℕ
content_fault levels t s = kind_fault (bind_fault levels) (kind_of t) s

-- ---- the mark

-- only a BIND has texts
abbrev pub kind_clean : (List ℕ → Bool) → Kind → List ℕ → Bool
kind_clean bind Transform s = true
kind_clean bind Position s = true
kind_clean bind Image s = true
kind_clean bind Bind s = bind s
kind_clean bind Other s = true

unfoldable pub children_clean : (List ℕ → Bool) → ℕ → List ℕ → List ℕ → Bool
children_clean bind zero h d = true
children_clean bind (suc k) h d =
    kind_clean bind (kind_of (type_of h)) (take (size_of h) d) && children_clean bind k (drop child_header_size h) (after_block (size_of h) d)

unfoldable pub bind_clean : ℕ → List ℕ → Bool
bind_clean zero s = false
bind_clean (suc levels) s = types_clean (child_count s) (headers s) && children_clean (bind_clean levels) (child_count s) (headers s) (data_of s)

unfoldable pub content_clean : ℕ → List ℕ → List ℕ → Bool
content_clean levels t s = kind_clean (bind_clean levels) (kind_of t) s

-- ---- number and mark

unfoldable pub bind_checked : ℕ → List ℕ → Checked
bind_checked levels s = checked (bind_fault levels s) (bind_clean levels s)

unfoldable pub content_checked : ℕ → List ℕ → List ℕ → Checked
content_checked levels t s = checked (content_fault levels t s) (content_clean levels t s)

-- how many levels of BIND there may be (rule 4.15)
abbrev pub deepest : ℕ
deepest = 4

-- so a child of the outermost has three levels left
abbrev pub nested_levels : ℕ
nested_levels = deepest - 1
