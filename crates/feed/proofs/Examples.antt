-- The examples, by computation; the answers to the messages of versions 1 and 2 are those of the samples.
use Prim.Native.Nat.{ℕ, ◌≤◌}
use mathlib.Core.Path.{◌≡◌, refl, sym, ap}
use mathlib.Core.List.{List, [], ◌∷◌, ◌++◌}
use native.Mathlib.Omega.{arith}
use lib.ListN.{length}
use Rattle.fields.specs.Answer.{room_fault}
use Rattle.fields.specs.Lists.{all_of, flat}
use Rattle.fields.specs.Numbers.{be_val}
use Rattle.fields.specs.Text.{is_text, text_of, past_text, all_zero, text_ok, text_clean, field_ok}
use Rattle.header.specs.HeaderReader.{header_of, short_fault, texts_fault, limit_fault, header_fault}
use Rattle.message.specs.declared.Layout.{Layout}
use Rattle.message.specs.declared.Layout.TheVariants.{New, Old}
use Rattle.message.specs.declared.Answer.{Answer}
use Rattle.message.specs.MessageReader.{whole_fault, version_fault, body_fault, front_fault, stream_fault, step_of, refused, read_of}
use Rattle.message.specs.Message.{WellFormed, encode}
use Rattle.message.specs.Samples.{arm_message, probe_bytes, probe_answer}
use Rattle.message.proofs.Samples.{samples}
use Rattle.message.proofs.ReceivedSamples.{received-samples}
use Rattle.feed.specs.Push.{open_of, push_fault, passed_of, fitting_of, taken_in, push_of, stored_to, buffer_of}
use Rattle.feed.specs.Runs.{run_on}
use Rattle.feed.specs.Examples.{Common, Twice, Examples}

arm-sent : (l : Layout) → WellFormed l arm_message × (length (encode l arm_message) ≤ 108)
arm-sent l = ((samples.arm l).well, omega (arith, ap length (samples.arm l).bytes))

common : (l : Layout) → Common l
unfolding room_fault all_of flat be_val is_text text_of past_text all_zero text_ok text_clean field_ok header_of short_fault texts_fault limit_fault header_fault whole_fault version_fault body_fault front_fault stream_fault step_of read_of open_of push_fault passed_of fitting_of taken_in push_of stored_to buffer_of run_on
common l =
    record {
      too_short = refl;
      opens = refl;
      part = record { answers = refl; feed = refl; taken = refl; buffer = refl };
      whole = record { answers = refl; feed = refl; taken = refl; buffer = refl };
      empty = record { answers = refl; feed = refl; taken = refl; buffer = refl };
      bytes = record { answers = refl; feed = refl; taken = refl; buffer = refl };
      exceeds = record { answers = refl; feed = refl; taken = refl; buffer = refl };
      exact = record { answers = refl; feed = refl; taken = refl; buffer = refl };
      fits = record { answers = refl; feed = refl; taken = refl; buffer = refl };
      passes = record { answers = refl; feed = refl; taken = refl; buffer = refl };
      passed = record { answers = refl; feed = refl; taken = refl; buffer = refl };
      unread = record { answers = refl; feed = refl; taken = refl; buffer = refl };
      crc_unread = record { answers = refl; feed = refl; taken = refl; buffer = refl };
      largest = record { answers = refl; feed = refl; taken = refl; buffer = refl };
      largest_ends = refl;
      too_long = record { answers = refl; feed = refl; taken = refl; buffer = refl };
      stops = record { answers = refl; feed = refl; taken = refl; buffer = refl };
      stops_long = record { answers = refl; feed = refl; taken = refl; buffer = refl };
      accepts =
          record {
            answers = λ i. (samples.arm l).damaged i ∷ (samples.arm l).read i ∷ [];
            feed = refl;
            taken = refl;
            buffer = refl;
          };
      not_clean = record { answers = λ i. (received-samples.tracker l).read i ∷ []; feed = refl; taken = refl; buffer = refl };
      sent = (arm-sent l, (arm-sent l, tt));
      sent_taken = sym (ap (λ (s : List ℕ). s ++ (s ++ [])) (samples.arm l).bytes);
      stopped = refl;
      longer = refl;
      shorter = refl;
      under_58 = refl;
      unwritten = refl;
      kept-len = refl;
    }

-- the message of V 2 in its two layouts: the answers of the runs are the reader's
twice : (l : Layout) (a b : Answer) → read_of l (probe_bytes New) ≡ a → read_of l (probe_bytes Old) ≡ b → Twice l (probe_bytes New) a × Twice l (probe_bytes Old) b
unfolding room_fault all_of be_val is_text text_of past_text all_zero text_ok text_clean field_ok header_of short_fault texts_fault limit_fault header_fault push_fault fitting_of taken_in push_of stored_to buffer_of run_on
twice l a b e d = (
  record { answers = λ i. e i ∷ e i ∷ []; feed = refl; taken = refl; buffer = refl },
  record { answers = λ i. d i ∷ d i ∷ []; feed = refl; taken = refl; buffer = refl },
)

pub examples : Examples
examples =
    let new = twice New probe_answer (refused 6 88) (samples.probe New).read (samples.other_probe Old) in
    let old = twice Old (refused 6 88) probe_answer (samples.other_probe New) (samples.probe Old).read in
    record { common = common; new_as_new = new.0; new_as_old = old.0; old_as_old = old.1; old_as_new = new.1 }
