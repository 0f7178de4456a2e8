-- The examples, by computation; P10's calls by what the panel answers to them.
use Prim.Native.Nat.{ℕ}
use mathlib.Core.Path.{◌≡◌, refl, ap, ◌∙◌}
use mathlib.Core.Bool.{cond}
use mathlib.Core.List.{[], ◌∷◌, ◌++◌}
use lib.Dec.{eqb}
use Rattle.fields.specs.Bytes.{same, sized}
use Rattle.fields.specs.Lists.{all_of, any_of}
use Rattle.fields.specs.Numbers.{be_val}
use Rattle.fields.specs.Text.{is_text}
use Rattle.message.specs.LayoutNumber.{layout_of}
use Rattle.history.specs.Calls.{look}
use Rattle.history.specs.Summary.{is_allowed, allowed_fault, clock_fault}
use Rattle.panel.specs.Records.{Panel, LookResult}
use Rattle.panel.specs.declared.Value.{Value}
use Rattle.panel.specs.declared.LookAnswer.{LookAnswer}
use Rattle.panel.specs.Calls.{add_of, add_fault, link_of, look_of}
use Rattle.panel.specs.Demand3.{panel_next, panel_after}
use Rattle.history.specs.BookExamples.{arm_bytes_calls}
use Rattle.panel.specs.Examples.{ArmLook, arm_value, zero_value}
use Rattle.panel.proofs.Laws.Demand3.{demand-3}
use Rattle.panel.proofs.Examples as panel
use Rattle.replay.specs.Records.{Accepted, Refused}
use Rattle.replay.specs.Script.{call_of, calls_within, calls_in}
use Rattle.replay.specs.Replay.{without_value, shown_as, after_look, performed, answer_among, answer_at, look_after}
use Rattle.replay.specs.Examples.{arm_script, Examples}

-- the calls of P10's script
arm-calls : calls_in arm_script ≡ arm_bytes_calls ++ (look 0 1700 ∷ look 0 1701 ∷ [])
unfolding calls_in calls_within call_of layout_of be_val
arm-calls = refl

-- looks leave the panel as it was
after-looks : panel_after (calls_in arm_script) ≡ panel_after arm_bytes_calls
unfolding panel_after
after-looks =
    ap panel_after arm-calls
    ∙ demand-3.looked (panel_next (panel_after arm_bytes_calls) (look 0 1700)) 0 1701
    ∙ demand-3.looked (panel_after arm_bytes_calls) 0 1700

-- what a look after P10's calls answers
looked : (i now : ℕ) (a : LookAnswer) (v : Value) → ArmLook i now a v
    → (after_look (look_of (panel_after arm_bytes_calls) i now)).answered ≡ record { answer = shown_as a; value = v }
looked i now a v e = ap (λ (r : LookResult). (after_look r).answered) e

pub examples : Examples
unfolding calls_in calls_within call_of layout_of be_val answer_at answer_among performed look_after panel_after add_of add_fault link_of allowed_fault is_allowed clock_fault same sized any_of is_text all_of
examples =
    record {
      five = refl;
      five_is_look = refl;
      layouts = refl;
      no_calls = refl;
      early_clock = refl;
      early_part = refl;
      long_parts = refl;
      early_call = refl;
      sayings = λ n v. refl;
      cases = refl;
      with_value = λ _ _. refl;
      without_call = refl;
      arm_added = refl;
      arm-linked = refl;
      arm_counted = ap (λ (n : ℕ). without_value (cond (eqb n 0) Accepted (Refused n))) (panel.examples).arm_counted;
      arm_green = looked 0 1700 _ arm_value (panel.examples).arm_green;
      arm_grey =
          ap (λ (p : Panel). (after_look (look_of p 0 1701)).answered) (demand-3.looked (panel_after arm_bytes_calls) 0 1700)
          ∙ looked 0 1701 _ arm_value (panel.examples).arm_grey;
      arm_no_call = refl;
      arm_after = ap (λ (p : Panel). (after_look (look_of p 0 1700)).answered) after-looks ∙ looked 0 1700 _ arm_value (panel.examples).arm_green;
      arm_early = ap (λ (p : Panel). (after_look (look_of p 0 1199)).answered) after-looks ∙ looked 0 1199 _ zero_value (panel.examples).arm_early;
      arm_not_there = ap (λ (p : Panel). (after_look (look_of p 1 1199)).answered) after-looks ∙ looked 1 1199 _ zero_value (panel.examples).arm_not_there;
    }
