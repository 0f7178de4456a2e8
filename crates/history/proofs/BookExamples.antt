-- The examples of the book, by what the bytes are read as, and then by computation.
use Prim.Native.Nat.{ℕ, suc}
use mathlib.Core.Path.{◌≡◌, refl, sym, ap, ◌∙◌}
use mathlib.Core.Bool.{true}
use mathlib.Core.List.{List, [], ◌∷◌, ◌++◌}
use native.Mathlib.Omega.{arith}
use native.Mathlib.Nat.{suc-ne-zero}
use lib.Dec.{ltb}
use lib.ListN.{take, drop}
use Rattle.fields.specs.Bytes.{Bytes, same}
use Rattle.fields.specs.Lists.{all_of, any_of, flat}
use Rattle.fields.specs.Numbers.{be_bytes}
use Rattle.fields.specs.Text.{is_text}
use Rattle.pose.specs.Words.{word_bytes}
use Rattle.content.specs.Tree as tree
use Rattle.message.specs.declared.Layout.{Layout}
use Rattle.message.specs.declared.Layout.TheVariants.{New, Old}
use Rattle.message.specs.Message.{Message, WellFormed, encode}
use Rattle.message.specs.Samples.{arm_message, arm_bytes, zero_bytes, probe_message, probe_bytes, point_message, point_bytes, other_than}
use Rattle.message.specs.declared.Answer.{Answer}
use Rattle.message.specs.MessageReader.{refused, stream_fault, read_of}
use Rattle.message.proofs.Examples as message
use Rattle.message.proofs.Samples.{samples}
use Rattle.message.proofs.Laws.Stream.{read_number}
use Rattle.message.proofs.Laws.Messages.{demand-2}
use Rattle.message.proofs.Laws.Below.{bytes_below}
use Rattle.history.specs.Reading.{Reading, no_message, left_over, one_message, Reads, none, more, one, Reader}
use Rattle.history.specs.Summary.{is_allowed, allowed_fault, clock_fault, summary_of}
use Rattle.history.specs.BookExamples.{damaged_bytes, Read, OnBooks, BookExamples}
use Rattle.history.proofs.Laws.ReaderTheorems.{same-reading}

-- more bytes after a message
left : (l : Layout) (s : List ℕ) (m : Message) → WellFormed l m → encode l m ≡ s → (x : ℕ) (r : List ℕ) → Reads l (s ++ (x ∷ r)) left_over
left l s m w e x r = more m (record { well = w; rest = x ∷ r; bytes = ap (λ (t : List ℕ). t ++ (x ∷ r)) e }) (omega arith)

-- the messages of V 2 are bytes, in each layout
probe-bytes : (l : Layout) → all_of (λ b. ltb b 256) (probe_bytes l) ≡ true
unfolding all_of
probe-bytes New = refl
probe-bytes Old = refl

probe-more : (l : Layout) → all_of (λ b. ltb b 256) (probe_bytes l ++ (7 ∷ [])) ≡ true
unfolding all_of
probe-more New = refl
probe-more Old = refl

point-bytes : (l : Layout) → all_of (λ b. ltb b 256) (point_bytes l) ≡ true
unfolding all_of
point-bytes New = refl
point-bytes Old = refl

module _ (R : Reader) where
  read_as : (l : Layout) (s : List ℕ) (r : Reading) → Bytes s → Reads l s r → R.read l s ≡ r
  read_as l s r b h = same-reading l s (R.read l s) r (R.reads l s b) h

  -- bytes that the reader refuses
  read-refused : (l : Layout) (s : List ℕ) → Bytes s → ((read_of l s).number ≡ 0 → ⊥) → R.read l s ≡ no_message (read_of l s).number
  read-refused l s b z =
      read_as l s (no_message (stream_fault l s)) b (none (λ m f. z ((demand-2 l).begun s m f))) ∙ ap no_message (sym (read_number l s))

  read_none : (l : Layout) (s : List ℕ) (k step : ℕ) → Bytes s → read_of l s ≡ refused (suc k) step → R.read l s ≡ no_message (suc k)
  read_none l s k step b h =
      let e : (read_of l s).number ≡ suc k = ap (λ (a : Answer). a.number) h in
      read-refused l s b (λ z. suc-ne-zero k (sym e ∙ z)) ∙ ap no_message e

  -- a message that is given byte by byte, and bytes after it
  read_one : (l : Layout) (s : List ℕ) (m : Message) → WellFormed l m → encode l m ≡ s → all_of (λ x. ltb x 256) s ≡ true → R.read l s ≡ one_message m
  read_one l s m w e b = read_as l s (one_message m) (bytes_below s b) (one m w e)

  read_left : (l : Layout) (s : List ℕ) (m : Message) (x : ℕ) (r : List ℕ) → WellFormed l m → encode l m ≡ s → all_of (λ y. ltb y 256) (s ++ (x ∷ r)) ≡ true
      → R.read l (s ++ (x ∷ r)) ≡ left_over
  read_left l s m x r w e b = read_as l (s ++ (x ∷ r)) left_over (bytes_below (s ++ (x ∷ r)) b) (left l s m w e x r)

  reads : (l : Layout) → Read R l
  unfolding all_of
  reads l =
      record {
        short = read_none l (take 57 arm_bytes) 0 0 (bytes_below (take 57 arm_bytes) refl) ((message.examples).p4 l (take 57 arm_bytes) refl);
        damaged = read_none l damaged_bytes 4 106 (bytes_below damaged_bytes refl) (samples.arm l).damaged;
        every_refusal = read-refused l;
        more = read_left l arm_bytes arm_message 7 [] (samples.arm l).well (samples.arm l).bytes refl;
        zero_more = read_left l arm_bytes arm_message 0 [] (samples.arm l).well (samples.arm l).bytes refl;
        message_more = read_left l arm_bytes arm_message 0 (drop 1 zero_bytes) (samples.arm l).well (samples.arm l).bytes refl;
        other_more = read_left l (probe_bytes l) probe_message 7 [] (samples.probe l).well (samples.probe l).bytes (probe-more l);
        arm = read_one l arm_bytes arm_message (samples.arm l).well (samples.arm l).bytes refl;
        probe = read_one l (probe_bytes l) probe_message (samples.probe l).well (samples.probe l).bytes (probe-bytes l);
        point = read_one l (point_bytes l) point_message (samples.point l).well (samples.point l).bytes (point-bytes l);
        other-point = read_none (other_than l) (point_bytes l) 5 109 (bytes_below (point_bytes l) (point-bytes l)) (samples.other-point l);
      }

  on_books : OnBooks R
  unfolding allowed_fault is_allowed clock_fault same any_of is_text all_of summary_of
  on_books =
      let r = reads New in
      let o = reads Old in
      record {
        fifteen = refl;
        sixteen = refl;
        other-hold-time = refl;
        types = refl;
        both-types = refl;
        names = refl;
        long-names = refl;
        last_byte = refl;
        links = refl;
        links-down = refl;
        messages-up = rw (r.short, r.damaged, r.more, r.other_more, r.probe, r.arm) refl;
        messages-refused = λ l ts s b z. rw ((reads l).every_refusal s b z) refl;
        messages-down = refl;
        messages-none = refl;
        messages-unknown = rw r.arm refl;
        messages-named = rw r.arm refl;
        messages-point = rw r.point refl;
        messages-layout = rw (r.point, r.other-point, o.point, o.other-point) refl;
        messages-last = rw r.arm refl;
        looks = refl;
        wide-looks = refl;
        added = refl;
        linked = refl;
        linked-down = refl;
        linked-at-once = refl;
        linked-late = rw r.arm refl;
        counted = rw r.arm refl;
        refused = rw (r.damaged, r.more, r.probe) refl;
        refused_full = refl;
        refused-down = refl;
        switched = refl;
        arm = rw r.arm refl;
        after = rw r.arm refl;
        gaps = rw r.arm refl;
        gap-filled = refl;
        full = refl;
      }

pub book-examples : BookExamples
unfolding all_of any_of same tree.encode word_bytes flat be_bytes
book-examples =
    record {
      fresh = refl;
      calls = (tt, (tt, (bytes_below arm_bytes refl, (tt, (tt, tt)))));
      any_calls = λ type name bytes h t i l b. (tt, (tt, (tt, (b, (tt, tt)))));
      counting = refl;
      not_counting = refl;
      value = refl;
      point_value = refl;
      position_values = refl;
      reads = reads;
      on_books = on_books;
    }
