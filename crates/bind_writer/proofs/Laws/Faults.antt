-- The writer's checks in order: which fault is given, and what is known where there is none.
use Prim.Native.Nat.{ℕ, ◌≤◌}
use mathlib.Core.Path.{◌≡◌, ap, ◌∙◌}
use mathlib.Core.Bool.{Bool, true, false, cond}
use mathlib.Core.List.{List}
use lib.ListN.{length}
use Rattle.fields.specs.Checks.{or_else}
use Rattle.fields.specs.Answer.{room_fault}
use Rattle.fields.specs.Writers.{writer_fault}
use Rattle.fields.proofs.Laws.Checks.{zero-else, else-first, else-second, cond-pass}
use Rattle.fields.proofs.Laws.Writers.{writer-passed}
use Rattle.content.specs.ContentTheorems.{first_fault}
use Rattle.bind_writer.specs.ChildLists.{children}
use Rattle.bind_writer.specs.BindWriter.{lists_ok, lists_fault, child_fault, given_fault, bind_bytes}

module _ (ts ns ds : List (List ℕ)) where
  abbrev of_children : ℕ
  of_children = first_fault child_fault (children ts ns ds)

  pub past-lists : lists_ok ts ns ds ≡ true → given_fault ts ns ds ≡ of_children
  unfolding given_fault lists_fault
  past-lists h = ap (λ (b : Bool). or_else (cond b 0 10) of_children) h

  module _ (room : ℕ) where
    abbrev of_room : ℕ
    of_room = room_fault (length (bind_bytes ts ns ds)) room

    pub by-lists : lists_ok ts ns ds ≡ false → writer_fault (given_fault ts ns ds) (bind_bytes ts ns ds) room ≡ 10
    unfolding given_fault lists_fault
    by-lists h = ap (λ (b : Bool). or_else (or_else (cond b 0 10) of_children) of_room) h

    pub by-children : lists_ok ts ns ds ≡ true → (of_children ≡ 0 → ⊥) → writer_fault (given_fault ts ns ds) (bind_bytes ts ns ds) room ≡ of_children
    by-children h n = ap (λ (k : ℕ). or_else k of_room) (past-lists h) ∙ else-first of_children of_room n

    pub by-room : lists_ok ts ns ds ≡ true → of_children ≡ 0 → writer_fault (given_fault ts ns ds) (bind_bytes ts ns ds) room ≡ of_room
    by-room h z = else-second (given_fault ts ns ds) of_room (past-lists h ∙ z)

    pub record Passed : Type 0 where
      pub lists : lists_ok ts ns ds ≡ true
      pub faultless : of_children ≡ 0
      pub fits : length (bind_bytes ts ns ds) ≤ room

    pub passed : writer_fault (given_fault ts ns ds) (bind_bytes ts ns ds) room ≡ 0 → Passed
    unfolding given_fault lists_fault
    passed h =
        let a = writer-passed (given_fault ts ns ds) (bind_bytes ts ns ds) room h in
        let b = zero-else (lists_fault ts ns ds) of_children a.0 in
        record { lists = (cond-pass (lists_ok ts ns ds) 9 0 b.0).0; faultless = b.1; fits = a.1 }
