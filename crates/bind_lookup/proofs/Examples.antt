-- The examples, by computation.
use mathlib.Core.Path.{◌≡◌, refl, sym, ap, ◌∙◌}
use mathlib.Core.Bool.{false}
use mathlib.Core.List.{List, [], ◌∷◌}
use lib.ListN.{get_or, replicate}
use Rattle.fields.specs.Bytes.{same, sized}
use Rattle.fields.specs.Lists.{all_of, flat}
use Rattle.fields.specs.Numbers.{be_val, be_bytes}
use Rattle.fields.specs.Text.{is_text, text_of, past_text, all_zero, text_ok, text_clean, field_ok, text_bytes}
use Rattle.fields.specs.Received.{field_bytes}
use Rattle.fields.specs.Answer.{checked}
use Rattle.bind_layout.specs.Children.{padded, child_header, child_name, child_data, name_table, encode_children}
use Rattle.bind_layout.specs.BindLayout.{types_ok, types_clean, name_ok, names_ok, table_ok, pad_ok, block_ok, data_ok, layout_ok, layout_fault}
use Rattle.fields.specs.Answer.{Checked}
use Rattle.content.specs.Kinds.{kind_of, bind_text}
use Rattle.content.specs.ContentCheck.{children_fault, bind_fault, children_clean, bind_clean, bind_checked, content_checked, deepest}
use Rattle.content.specs.Examples.{inner, outer, inner_rest}
use Rattle.content.proofs.Examples.{examples as content-examples}
use Rattle.content.proofs.Laws.Kinds.{kind-bind}
use Rattle.content.proofs.Laws.ChildrenWalk.{bind-fault, kind-bound}
use Rattle.bind_lookup.specs.ChildLookup.{Place, names_from, data_from, index_in, count_of, mark_of, index_fault, placed, named_place, part_at, type_at, name_at}
use Rattle.bind_lookup.specs.EitherLookup.{sourced, either_place}
use Rattle.bind_lookup.specs.Examples.{Examples}

-- `inner` has a TRANSFORM: that it is accepted is an example of content's
outer-checked : content_checked deepest bind_text (outer (replicate 8 0) (inner inner_rest)) ≡ record { number = 0; clean = false }
outer-checked = ap (λ (l : List Checked). get_or l 2 (record { number = 0; clean = false })) content-examples.marks

named-in-outer : named_place (outer (replicate 8 0) (inner inner_rest)) (0x4E ∷ []) ≡ record { number = 0; at = 26; len = 74; clean = false }
unfolding same be_val text_of past_text data_from index_in index_fault placed
named-in-outer =
    let s = outer (replicate 8 0) (inner inner_rest) in
    let e : bind_checked deepest s ≡ record { number = 0; clean = false } = sym (kind-bound deepest bind_text s kind-bind) ∙ outer-checked in
    let n : bind_fault deepest s ≡ 0 = sym (bind-fault deepest s) ∙ ap (λ (k : Checked). k.number) e in
    let m : mark_of s ≡ false = ap (λ (k : Checked). k.clean) e in
    simp (n, m)

pub examples : Examples
unfolding same sized all_of flat be_val be_bytes is_text text_of past_text all_zero text_ok text_clean field_ok text_bytes field_bytes checked padded child_header child_name child_data name_table encode_children types_ok types_clean name_ok names_ok table_ok pad_ok block_ok data_ok layout_ok layout_fault kind_of children_fault bind_fault children_clean bind_clean bind_checked names_from data_from index_in count_of index_fault placed type_at name_at sourced either_place
examples =
    record {
      count = refl;
      at_index = refl;
      contents = refl;
      types = refl;
      names = refl;
      named = refl;
      named_first = refl;
      unnamed = refl;
      faults = refl;
      named_faults = refl;
      faulty = refl;
      faulty_named = refl;
      faulty_count = refl;
      site = refl;
      site_part = refl;
      default = refl;
      default_part = refl;
      neither = refl;
      finds = (refl, refl, refl, refl);
      finds_none = (refl, refl, refl, refl);
      site_fault = refl;
      default_fault = refl;
      both_faults = refl;
      both_faults_turned = refl;
      marks = refl;
      marks_count = refl;
      received = named-in-outer;
      as_received = ap (λ (p : Place). part_at p (outer (replicate 8 0) (inner inner_rest))) named-in-outer;
      type_texts = refl;
      site_mark = refl;
      default_mark = refl;
      both_marks = refl;
      same_name = refl;
    }
