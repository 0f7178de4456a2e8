-- Look-ups by name in two bundles (rule 6.2): where the child stands in the site's bundle or, if that has no such child, in the default
-- one, and in which of the two. The site's bundle is judged first, then the default one; then comes 19 (rule 5.5).
use Rattle.std.specs.Prelude.{ℕ, ◌≡◌, Bool, false, cond, List, [], eqb, ltb, Option, Some, None, Result, Ok, Err}
use Rattle.fields.specs.Bytes.{part}
use Rattle.fields.specs.Checks.{or_else}
use Rattle.bind_layout.specs.BindLayout.{child_count}
use Rattle.content.specs.ContentCheck.{bind_fault, deepest}
use Rattle.fields.specs.Fault.{fault_number}
use Rattle.fields.specs.declared.fault.Fault.{Fault}
use Rattle.bind_lookup.specs.declared.EitherPlace.{EitherPlace as EitherFound}
use Rattle.bind_lookup.specs.declared.Source.{Source as SourceFound}
use Rattle.bind_lookup.specs.declared.Source.TheVariants.{Site as SiteFound, Default as DefaultFound}
use Rattle.bind_lookup.specs.ChildLookup.{Place, index_of, mark_of, place_in}

-- which of two bundles a child is in: neither where the look-up is refused
pub data Source : Type 0 where
  Site : Source
  Default : Source
  Neither : Source

-- the number (rule 5.1), and a place in the bundle that the source names
pub record EitherPlace : Type 0 where
  pub number : ℕ
  pub source : Source
  pub at : ℕ
  pub len : ℕ
  pub clean : Bool

-- what the answers say: of a refusal, all but the number is 0, and the mark false
abbrev pub source_found : SourceFound → Source
source_found SiteFound = Site
source_found DefaultFound = Default

abbrev pub source_answer : Option SourceFound → Source
source_answer (Some s) = source_found s
source_answer None = Neither

abbrev pub either_found : EitherFound → EitherPlace
either_found p =
    record { number = 0; source = source_found p.source; at = p.place.at; len = p.place.len; clean = p.place.clean }

abbrev pub either_answer : Result EitherFound Fault → EitherPlace
either_answer (Ok p) = either_found p
either_answer (Err f) = record { number = fault_number f; source = Neither; at = 0; len = 0; clean = false }

-- the first fault of the two
abbrev pub either_fault : List ℕ → List ℕ → ℕ
either_fault site default = or_else (bind_fault deepest site) (bind_fault deepest default)

-- a place in the bundle of this source: neither's, where refused
unfoldable pub sourced : Source → Place → EitherPlace
sourced source p =
    record { number = p.number; source = cond (eqb p.number 0) source Neither; at = p.at; len = p.len; clean = p.clean }

-- the site's, where it has the name; else the default's
unfoldable pub either_place : List ℕ → List ℕ → List ℕ → EitherPlace
either_place site default x =
    cond (ltb (index_of site x) (child_count site))
    (sourced Site (place_in (either_fault site default) (mark_of site) site (index_of site x)))
    (sourced Default (place_in (either_fault site default) (mark_of default) default (index_of default x)))

-- the bundle that a source means
abbrev pub bundle_of : Source → List ℕ → List ℕ → List ℕ
bundle_of Site site default = site
bundle_of Default site default = default
bundle_of Neither site default = []

-- the bytes at such a place
abbrev pub either_part : EitherPlace → List ℕ → List ℕ → List ℕ
either_part p site default = part p.len p.at (bundle_of p.source site default)

-- the bytes of the child of the name
abbrev pub either_data : List ℕ → List ℕ → List ℕ → List ℕ
either_data site default x = either_part (either_place site default x) site default

-- this number, these bytes, this source and this mark are what the look-up of the name gives
abbrev pub Finds : List ℕ → List ℕ → List ℕ → ℕ → List ℕ → Source → Bool → Type 0
Finds site default x number bytes source mark =
    (number ≡ (either_place site default x).number)
    × (bytes ≡ either_data site default x)
    × (source ≡ (either_place site default x).source)
    × (mark ≡ (either_place site default x).clean)
