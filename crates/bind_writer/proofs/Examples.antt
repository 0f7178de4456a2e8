-- The examples, by computation.
use Prim.Native.Nat.{ℕ, ◌<◌}
use mathlib.Core.Path.{◌≡◌, refl, ap}
use mathlib.Core.Bool.{false}
use mathlib.Core.List.{List, [], ◌∷◌}
use native.Mathlib.Omega.{arith}
use lib.ListN.{get_or, replicate}
use Rattle.fields.specs.Bytes.{Bytes, same, sized}
use Rattle.fields.specs.Lists.{Each, all_of, flat}
use Rattle.fields.specs.Numbers.{be_val, be_bytes}
use Rattle.fields.specs.Text.{is_text, text_of, past_text, all_zero, text_ok, text_clean, field_ok, text_bytes}
use Rattle.fields.specs.Received.{field_bytes}
use Rattle.fields.specs.Checks.{or_else}
use Rattle.fields.specs.Answer.{Checked, checked, room_fault}
use Rattle.fields.specs.Writers.{written_by, out_by}
use Rattle.fields.proofs.Laws.Bytes.{bytes-cons}
use Rattle.fields.proofs.Laws.Checks.{zero-else}
use Rattle.fields.proofs.Laws.Received.{bytes-zeros}
use Rattle.bind_layout.specs.Children.{padded, child_header, child_name, child_data, name_table, encode_children}
use Rattle.bind_layout.specs.BindLayout.{types_ok, name_ok, names_ok, table_ok, pad_ok, block_ok, data_ok, layout_ok, layout_fault}
use Rattle.content.specs.Kinds.{kind_of, bind_text}
use Rattle.content.specs.ContentCheck.{children_fault, bind_fault, content_fault, content_checked, nested_levels}
use Rattle.content.specs.Examples.{within, inner, outer, inner_rest}
use Rattle.content.proofs.Examples.{examples as content-examples}
use Rattle.cleaning.specs.CleanBytes.{clean_headers, clean_front, clean_blocks, clean_bind, clean_bytes}
use Rattle.bind_writer.specs.ChildLists.{children}
use Rattle.bind_writer.specs.BindWriter.{lists_ok, lists_fault, given_fault}
use Rattle.bind_writer.specs.Examples.{Examples}

below-256 : (s : List ℕ) → Each (λ b. b < 256) s → Bytes s
below-256 [] h = bytes-zeros 0
below-256 (b ∷ s) h = bytes-cons b s h.0 (below-256 s h.1)

abbrev none : Checked
none = record { number = 0; clean = false }

-- `inner` has a TRANSFORM: that such children are accepted is in examples of content's
abbrev Accepted : List ℕ → Type 0
Accepted s = content_fault nested_levels bind_text s ≡ 0

third : (l m : List Checked) → l ≡ m → (get_or l 2 none).number ≡ (get_or m 2 none).number
third l m e = ap (λ (k : List Checked). (get_or k 2 none).number) e

accepted : Accepted (inner inner_rest) × Accepted (within (within (inner inner_rest)))
unfolding same sized all_of flat be_val be_bytes is_text text_of past_text all_zero text_ok text_clean text_bytes field_bytes checked padded child_header child_name child_data name_table encode_children types_ok name_ok names_ok table_ok pad_ok block_ok data_ok layout_ok layout_fault kind_of children_fault bind_fault content_fault content_checked
accepted = (
  (zero-else (content_fault nested_levels bind_text (inner inner_rest)) 0 (third _ _ content-examples.marks)).0,
  (zero-else (content_fault nested_levels bind_text (within (within (inner inner_rest)))) 0 (third _ _ content-examples.deep_marks)).0,
)

pub examples : Examples
unfolding same sized all_of flat be_val be_bytes is_text text_of past_text all_zero text_ok text_clean field_ok text_bytes field_bytes checked room_fault written_by out_by padded child_header child_name child_data name_table encode_children types_ok name_ok names_ok table_ok pad_ok block_ok data_ok layout_ok layout_fault kind_of children_fault bind_fault content_fault content_checked clean_headers clean_front clean_blocks clean_bind clean_bytes children lists_ok lists_fault given_fault
examples =
    record {
      sizes_fit = (omega arith, (omega arith, tt));
      are_bytes = (below-256 (0x61 ∷ 0x62 ∷ 0x63 ∷ []) (omega arith, (omega arith, (omega arith, tt))), (below-256 (0x71 ∷ []) (omega arith, tt), tt));
      written = refl;
      wrote = refl;
      untouched = refl;
      no-children = refl;
      counts = refl;
      type_lengths = refl;
      bytes = refl;
      ended = refl;
      table_lengths = refl;
      many_children = refl;
      first-fault = refl;
      children_faults = refl;
      lists_first = refl;
      cleaned = ap (λ (n : ℕ). out_by (or_else n 0) (outer (replicate 8 0) (inner (replicate 3 0))) (replicate 101 5)) accepted.0;
      cleaned_count = ap (λ (n : ℕ). written_by (or_else n 0) (outer (replicate 8 0) (inner (replicate 3 0))) 100) accepted.0;
      cleaned_deep = ap (λ (n : ℕ). out_by (or_else n 0) (within (within (within (inner (replicate 3 0))))) (replicate 152 5)) accepted.1;
      as_given = refl;
      not_text = refl;
    }
