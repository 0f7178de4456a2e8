-- Every sequence of calls whose arguments fit their fields is a script's, and the calls of every script are such a sequence.
use Rattle.std.specs.Prelude.{ℕ, ◌^◌, ◌<◌, ◌≡◌, List, [], ◌∷◌, length}
use Rattle.fields.specs.Bytes.{Bytes}
use Rattle.fields.specs.Lists.{Each, flat}
use Rattle.fields.specs.Numbers.{be_bytes}
use Rattle.fields.specs.Layout.{join}
use Rattle.message.specs.LayoutNumber.{layout_number}
use Rattle.history.specs.Calls.{Call, add, link_up, link_down, message, look}
use Rattle.replay.specs.Script.{Fields, calls_in}

-- the fields of a call, 0 for what it takes no notice of
abbrev pub fields_of : Call → Fields
fields_of (add t n h) = record { which = 0; clock = 0; number = h; first = t; second = n }
fields_of (link_up l t) = record { which = 1; clock = t; number = layout_number l; first = []; second = [] }
fields_of (link_down t) = record { which = 2; clock = t; number = 0; first = []; second = [] }
fields_of (message t s) = record { which = 3; clock = t; number = 0; first = s; second = [] }
fields_of (look i t) = record { which = 4; clock = t; number = i; first = []; second = [] }

-- as they are written: which call, its clock, its number, the lengths of its two parts, and the parts
abbrev pub written : Fields → List (List ℕ)
written f =
    be_bytes 1 f.which
    ∷ be_bytes 8 f.clock
    ∷ be_bytes 8 f.number
    ∷ be_bytes 4 (length f.first)
    ∷ be_bytes 4 (length f.second)
    ∷ f.first
    ∷ f.second
    ∷ []

abbrev pub call_bytes : Call → List ℕ
call_bytes c = join (written (fields_of c))

-- a script of these calls
unfoldable pub script_of : List Call → List ℕ
script_of cs = flat call_bytes cs

-- the part is of bytes, and its length fits four
pub record PartFits (x : List ℕ) : Type 0 where
  pub bytes : Bytes x
  pub length_fits : length x < 256 ^ 4

-- the clock and the number fit eight bytes
pub record FieldsFit (f : Fields) : Type 0 where
  pub which : f.which < 256
  pub clock : f.clock < 256 ^ 8
  pub number : f.number < 256 ^ 8
  pub first : PartFits f.first
  pub second : PartFits f.second

-- the arguments fit their fields
abbrev pub Fits : Call → Type 0
Fits c = FieldsFit (fields_of c)

pub record ScriptTheorems : Type 0 where
  -- a script of calls that fit is of bytes, and its calls are those
  pub bytes : (cs : List Call) → Each Fits cs → Bytes (script_of cs)
  pub read_back : (cs : List Call) → Each Fits cs → calls_in (script_of cs) ≡ cs
  -- the calls of any bytes fit, so some script in this form has the same calls
  pub fit : (s : List ℕ) → Bytes s → Each Fits (calls_in s)
  pub written_again : (s : List ℕ) → Bytes s → calls_in (script_of (calls_in s)) ≡ calls_in s
