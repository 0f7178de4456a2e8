-- Cases P10 to P12, and the cable, for every message from Arm; and for one byte by byte.
use Prim.Native.Nat.{ℕ, suc}
use mathlib.Core.Path.{◌≡◌, refl, sym, ap, ap₂, subst, ◌∙◌}
use mathlib.Core.Logic.{inl}
use mathlib.Core.Bool.{Bool, true, cond}
use mathlib.Core.List.{List, [], ◌∷◌, ◌++◌, map, foldl}
use native.Mathlib.Omega.{arith}
use lib.Dec.{eqb, eqb-suc-zero}
use lib.ListN.{replicate}
use Rattle.fields.specs.Bytes.{same, sized}
use Rattle.fields.specs.Lists.{all_of, any_of, flat}
use Rattle.fields.specs.Numbers.{be_bytes}
use Rattle.fields.specs.Text.{is_text}
use Rattle.fields.specs.Checks.{or_else}
use Rattle.content.specs.Kinds.{transform_text, position_text}
use Rattle.fields.proofs.Laws.Checks.{else-zero}
use Rattle.pose.specs.Words.{word_bytes}
use Rattle.content.specs.Tree as tree
use Rattle.content.specs.ContentCheck.{deepest}
use Rattle.message.specs.declared.Layout.{Layout}
use Rattle.message.specs.declared.Layout.TheVariants.{New, Old}
use Rattle.message.specs.Message.{Message, encode}
use Rattle.message.specs.MessageReader.{read_of}
use Rattle.message.specs.MessageReader as read
use Rattle.message.specs.Demand2.{Begins}
use Rattle.message.specs.declared.Answer.{Answer as Read}
use Rattle.message.specs.Samples.{arm_text, arm_message, arm_bytes, arm_answer, arm_content, zero_bytes, zero_answer, position_bytes, position_answer, point_bytes, point_answer, other_than}
use Rattle.message.specs.ReceivedSamples.{tracker_message}
use Rattle.message.proofs.Samples.{samples, by_layout}
use Rattle.message.proofs.ReceivedSamples.{received-samples}
use Rattle.message.proofs.Laws.Messages.{demand-2}
use Rattle.history.specs.Calls.{add, link_up, link_down, message, look, green, grey, Answer, refused, accepted, empty, shown}
use Rattle.history.specs.Summary.{Summary, is_allowed, allowed_fault, clock_fault, fault_on}
use Rattle.history.specs.History.{value_for, Shown}
use Rattle.history.specs.BookExamples.{arm_bytes_calls, damaged_bytes}
use Rattle.history.proofs.BookExamples.{book-examples}
use Rattle.panel.specs.declared.Label.{Label}
use Rattle.panel.specs.declared.Value.{Value}
use Rattle.panel.specs.declared.LookAnswer.{LookAnswer}
use Rattle.panel.specs.declared.LookAnswer.TheVariants as look-answer
use Rattle.panel.specs.Records.{Panel, CallResult}
use Rattle.panel.specs.Tiles.{value_of, label_of, counted_for, is_tile}
use Rattle.panel.specs.Calls.{label_in, add_fault, add_of, link_of, read_fault, message_fault, at_clock, received, read_on, refused_call, message_of, look_fault, look_of}
use Rattle.panel.specs.Demand3.{answer_to, panel_next, panel_after}
use Rattle.panel.specs.Examples.{FromArm, arm_tile, arm_linked, point_linked, PointShown, three_tiles, one_counted, two_counted, two_tiles, both_counted, one_name, short_tile, sixteen_tiles, last_counted, added_late, late_calls, ArmLook, arm_value, zero_value, Examples}
use Rattle.panel.proofs.Laws.Calls.{message-accepted, read_whole}
use Rattle.history.proofs.Laws.ReaderTheorems.{begins-one, one-step}
use Rattle.panel.proofs.Laws.Contents.{bytes_of, pose-short, value-bytes}
use Rattle.panel.proofs.Laws.Checked.{begun_label, begun-value}
use Rattle.panel.proofs.Laws.Demand3.{demand-3}

abbrev arm : Label
arm = label_of transform_text arm_text

-- the panel after the first two calls
abbrev linked_panel : Layout → Panel
linked_panel l = panel_after (arm_linked l)

-- a panel after a message from Arm with this clock and value
abbrev counted_panel : Panel → ℕ → Value → Panel
counted_panel p t v = record { tiles = map (counted_for arm t v) p.tiles; link = at_clock t p.link }

-- a panel on which such a message counts
record Counts (p : Panel) (t : ℕ) : Type 0 where
  in-time : clock_fault p.link.clock t ≡ 0
  is_up : p.link.up ≡ true
  has-arm : any_of (is_tile arm) p.tiles ≡ true

-- a message in the layout of the panel's link
module _ (p : Panel) (m : Message) (f : FromArm p.link.layout m) where
  abbrev bytes : List ℕ
  bytes = encode p.link.layout m

  front : Begins p.link.layout bytes m
  front = begins-one p.link.layout bytes m f.well refl

  -- the value that it gives the tile
  abbrev value : List ℕ
  value = value_for m (arm_tile 500)

  label_is : label_in bytes (read_on p.link bytes) ≡ arm
  label_is = begun_label p.link.layout bytes m front ∙ ap₂ label_of f.is_transform f.is_arm

  module _ (t : ℕ) (c : Counts p t) where
    read-fault : read_fault p.tiles bytes (read_on p.link bytes) ≡ 0
    read-fault =
        read_whole p.tiles bytes (read_on p.link bytes) ((demand-2 p.link.layout).begun bytes m front)
        (omega (arith, one-step p.link.layout bytes m f.well refl))
        ∙ ap (λ (k : Label). cond (any_of (is_tile k) p.tiles) 0 13) label_is
        ∙ ap (λ (b : Bool). cond b 0 13) c.has-arm

    message-fault : message_fault p t bytes ≡ 0
    unfolding message_fault
    message-fault =
        else-zero (clock_fault p.link.clock t) _ c.in-time
        (else-zero (cond p.link.up 0 14) _ (ap (λ (b : Bool). cond b 0 14) c.is_up) read-fault)

    counted-panel : panel_next p (message t bytes) ≡ counted_panel p t (value_of value)
    counted-panel =
        ap (λ (r : CallResult). r.panel) (sym (message-accepted p t bytes message-fault))
        ∙ ap₂ (λ (k : Label) (v : Value). record { tiles = map (counted_for k t v) p.tiles; link = at_clock t p.link })
        label_is (begun-value p.link.layout bytes m (arm_tile 500) front)

    -- what a look shows after it and the next calls
    shown-after : (next : Panel → Panel) (i now : ℕ) (a : List ℕ → Answer)
        → answer_to (next (counted_panel p t (value_of value))) (look i now) ≡ a (bytes_of (value_of value))
        → answer_to (next (panel_next p (message t bytes))) (look i now) ≡ a value
    shown-after next i now a e =
        ap (λ (q : Panel). answer_to (next q) (look i now)) counted-panel
        ∙ e
        ∙ ap a (value-bytes value (pose-short m.content deepest f.well.content (inl f.is_transform)))

-- it counts after the first two calls
linked-counts : (l : Layout) → Counts (linked_panel l) 1200
unfolding panel_after add_of add_fault link_of allowed_fault is_allowed clock_fault same sized any_of is_text all_of
linked-counts l = record { in-time = refl; is_up = refl; has-arm = refl }

-- ---- the message from Arm that is given byte by byte

arm_from : (l : Layout) → FromArm l arm_message
arm_from l = record { well = (samples.arm l).well; is_transform = refl; is_arm = refl }

tracker-from : (l : Layout) → FromArm l tracker_message
tracker-from l = record { well = (received-samples.tracker l).well; is_transform = refl; is_arm = refl }

sevens : value_for tracker_message (arm_tile 500) ≡ replicate 48 7
unfolding tree.encode word_bytes flat be_bytes
sevens = refl

arm-panel : panel_after arm_bytes_calls ≡ counted_panel (linked_panel New) 1200 (value_of arm_content)
unfolding panel_after
arm-panel =
    let p = linked_panel New in
    ap (λ (s : List ℕ). panel_next p (message 1200 s)) (sym (samples.arm p.link.layout).bytes)
    ∙ counted-panel p arm_message (arm_from p.link.layout) 1200 (linked-counts New)
    ∙ ap (λ (c : List ℕ). counted_panel p 1200 (value_of c)) book-examples.value

arm-look : (i now : ℕ) (a : LookAnswer) (v : Value)
    → (let p = counted_panel (linked_panel New) 1200 (value_of arm_content) in look_of p i now ≡ record { panel = p; answer = a; value = v })
    → ArmLook i now a v
arm-look i now a v = subst (λ (p : Panel). look_of p i now ≡ record { panel = p; answer = a; value = v }) (sym arm-panel)

-- what a message call gives back where the reader answers a to its bytes
abbrev message_read : Panel → ℕ → List ℕ → Read → CallResult
message_read p t s a =
    cond (eqb (or_else (clock_fault p.link.clock t) (or_else (cond p.link.up 0 14) (read_fault p.tiles s a))) 0)
    (record { panel = received p t s a; number = 0 })
    (refused_call p (or_else (clock_fault p.link.clock t) (or_else (cond p.link.up 0 14) (read_fault p.tiles s a))))

abbrev stream_fault : CallResult → ℕ
stream_fault r = r.number

sent : (p : Panel) (t : ℕ) (s : List ℕ) (a : Read) → read_on p.link s ≡ a → message_of p t s ≡ message_read p t s a
unfolding message_of message_fault
sent p t s a e = ap (message_read p t s) e

arm-sent : (p : Panel) (t : ℕ) → message_of p t arm_bytes ≡ message_read p t arm_bytes arm_answer
arm-sent p t = sent p t arm_bytes arm_answer (samples.arm p.link.layout).read

zero-sent : (p : Panel) (t : ℕ) → message_of p t zero_bytes ≡ message_read p t zero_bytes zero_answer
zero-sent p t = sent p t zero_bytes zero_answer (samples.zeros p.link.layout)

-- on a link of this layout
point-read : (l : Layout) (p : Panel) → p.link.layout ≡ l → read_on p.link (point_bytes l) ≡ point_answer
point-read l p e = ap (λ (o : Layout). read_of o (point_bytes l)) e ∙ (samples.point l).read

point-sent : (l : Layout) (p : Panel) (t : ℕ) → p.link.layout ≡ l → message_of p t (point_bytes l) ≡ message_read p t (point_bytes l) point_answer
point-sent l p t e = sent p t (point_bytes l) point_answer (point-read l p e)

-- the panels after one message and after two
one-panel : panel_after one_counted ≡ (message_read (panel_after three_tiles) 1200 arm_bytes arm_answer).panel
unfolding panel_after
one-panel = ap (λ (r : CallResult). r.panel) (arm-sent (panel_after three_tiles) 1200)

abbrev one_panel : Panel
one_panel = (message_read (panel_after three_tiles) 1200 arm_bytes arm_answer).panel

two-panel : panel_after two_counted ≡ (message_read one_panel 1300 zero_bytes zero_answer).panel
unfolding panel_after
two-panel =
    ap (λ (p : Panel). (message_of p 1300 zero_bytes).panel) one-panel
    ∙ ap (λ (r : CallResult). r.panel) (zero-sent one_panel 1300)

abbrev two_panel : Panel
two_panel = (message_read one_panel 1300 zero_bytes zero_answer).panel

-- the panel after a message for each of two tiles
abbrev first_panel : Panel
first_panel = (message_read (panel_after two_tiles) 1200 arm_bytes arm_answer).panel

abbrev both_panel : Panel
both_panel = (message_read first_panel 1300 (point_bytes New) point_answer).panel

first-layout : first_panel.link.layout ≡ New
unfolding panel_after add_of add_fault link_of read_fault allowed_fault is_allowed clock_fault same sized any_of is_text all_of
first-layout = refl

both-panel : panel_after both_counted ≡ both_panel
unfolding panel_after
both-panel =
    ap (λ (r : CallResult). (message_of r.panel 1300 (point_bytes New)).panel) (arm-sent (panel_after two_tiles) 1200)
    ∙ ap (λ (r : CallResult). r.panel) (point-sent New first_panel 1300 first-layout)

-- and after one for the last of sixteen
last-panel : panel_after last_counted ≡ (message_read (panel_after sixteen_tiles) 1200 arm_bytes arm_answer).panel
unfolding panel_after
last-panel = ap (λ (r : CallResult). r.panel) (arm-sent (panel_after sixteen_tiles) 1200)

-- and after one that no tile was there for, and the adding of its tile
abbrev added_panel : Panel
added_panel = panel_next (message_read (panel_after (link_up New 1000 ∷ [])) 1200 arm_bytes arm_answer).panel (add transform_text arm_text 500)

added-panel : panel_after added_late ≡ added_panel
unfolding panel_after
added-panel = ap (λ (r : CallResult). panel_next r.panel (add transform_text arm_text 500)) (arm-sent (panel_after (link_up New 1000 ∷ [])) 1200)

-- what looks at tiles answer on a panel
abbrev on_panel : List ℕ → ℕ → Panel → List Answer
on_panel tiles now p = map (λ i. answer_to p (look i now)) tiles

-- what they answer after the calls f and a message, where the bytes are read so, and the panel before them is q
then-sent : (tiles : List ℕ) (now : ℕ) (f : Panel → Panel) (t : ℕ) (s : List ℕ) (a : Read) (p q : Panel) → p ≡ q → read_on (f q).link s ≡ a
    → on_panel tiles now (message_of (f p) t s).panel ≡ on_panel tiles now (message_read (f q) t s a).panel
then-sent tiles now f t s a p q h e =
    ap (λ (x : Panel). on_panel tiles now (message_of (f x) t s).panel) h
    ∙ ap (λ (r : CallResult). on_panel tiles now r.panel) (sent (f q) t s a e)

then-arm : (tiles : List ℕ) (now : ℕ) (f : Panel → Panel) (t : ℕ) (p q : Panel) → p ≡ q
    → on_panel tiles now (message_of (f p) t arm_bytes).panel ≡ on_panel tiles now (message_read (f q) t arm_bytes arm_answer).panel
then-arm tiles now f t p q h = then-sent tiles now f t arm_bytes arm_answer p q h (samples.arm (f q).link.layout).read

-- what a look shows after a POSITION on a link of its layout
then-point : (l : Layout) (p : Panel) → p.link.layout ≡ l
    → answer_to (message_of p 20 (point_bytes l)).panel (look 0 20) ≡ answer_to (message_read p 20 (point_bytes l) point_answer).panel (look 0 20)
then-point l p e = ap (λ (r : CallResult). answer_to r.panel (look 0 20)) (point-sent l p 20 e)

-- a message on a link that is down is not read
down-sent : answer_to (panel_after (add transform_text arm_text 500 ∷ message 1500 arm_bytes ∷ [])) (look 0 0) ≡ empty
unfolding panel_after add_of add_fault message_of message_fault allowed_fault is_allowed clock_fault look_of look_fault same sized any_of is_text all_of
down-sent = refl

down-number : (message_of (panel_after (add transform_text arm_text 500 ∷ [])) 1200 arm_bytes).number ≡ 14
unfolding panel_after add_of add_fault message_of message_fault allowed_fault is_allowed clock_fault same sized any_of is_text all_of
down-number = refl

down-point : (l : Layout) → (message_of (panel_after (point_linked l ++ (link_down 11 ∷ []))) 20 (point_bytes l)).number ≡ 14
unfolding panel_after add_of add_fault link_of message_of message_fault allowed_fault is_allowed clock_fault same sized any_of is_text all_of
down-point l = refl

pub examples : Examples
unfolding panel_after add_of add_fault link_of read_fault allowed_fault is_allowed clock_fault look_of look_fault same sized any_of is_text all_of
examples =
    record {
      p10 = λ l m f. shown-after (linked_panel l) m f 1200 (linked-counts l) (λ p. p) 0 1700 (shown green 500) refl;
      p11 = λ l m f. shown-after (linked_panel l) m f 1200 (linked-counts l) (λ p. p) 0 1701 (shown grey 501) refl;
      p11_before = λ l m f. shown-after (linked_panel l) m f 1200 (linked-counts l) (λ p. p) 0 1199 (λ v. refused 15) refl;
      p12 = λ l o m f. shown-after (linked_panel l) m f 1200 (linked-counts l) (λ p. panel_next p (link_up o 1400)) 0 1400 (shown grey 200) refl;
      loose_cable = λ l m f. shown-after (linked_panel l) m f 1200 (linked-counts l) (λ p. panel_next p (link_down 1400)) 0 1400 (shown grey 200) refl;
      reconnect = λ l o m f.
          shown-after (linked_panel l) m f 1200 (linked-counts l) (λ p. panel_next (panel_next p (link_down 1300)) (link_up o 1400)) 0 1400 (shown grey 200) refl;
      short_hold_time = λ l m f.
          shown-after (panel_after (add transform_text arm_text 499 ∷ link_up l 1000 ∷ [])) m f 1200 (record { in-time = refl; is_up = refl; has-arm = refl })
          (λ p. p) 0 1700 (shown grey 500) refl;
      refused_link = λ l o m f. shown-after (linked_panel l) m f 1200 (linked-counts l) (λ p. panel_next p (link_up o 1199)) 0 1700 (shown green 500) refl;
      second_message = λ l m n f g.
          ap (λ (p : Panel). answer_to (panel_next p (message 1300 (encode l n))) (look 0 1700)) (counted-panel (linked_panel l) m f 1200 (linked-counts l))
          ∙ shown-after (counted_panel (linked_panel l) 1200 (value_of (value (linked_panel l) m f))) n g 1300 (record { in-time = refl; is_up = refl; has-arm = refl })
          (λ p. p) 0 1700 (shown green 400) refl;
      arm = arm_from;
      arm-bytes = λ l. (samples.arm l).bytes;
      arm_p12 = ap (λ (p : Panel). answer_to (panel_next p (link_up New 1400)) (look 0 1400)) arm-panel;
      tracker = tracker-from;
      tracker_green = λ l.
          ap (λ (s : List ℕ). answer_to (panel_next (linked_panel l) (message 1200 s)) (look 0 1700)) (sym (received-samples.tracker l).bytes)
          ∙ shown-after (linked_panel l) tracker_message (tracker-from l) 1200 (linked-counts l) (λ p. p) 0 1700 (shown green 500) refl
          ∙ ap (shown green 500) sevens;
      counted-for = ap (on_panel (0 ∷ 1 ∷ 2 ∷ 3 ∷ []) 1700) one-panel;
      counted_older = ap (on_panel (0 ∷ 1 ∷ 2 ∷ []) 1701) one-panel;
      counted_long_ago = ap (λ (p : Panel). on_panel (1 ∷ []) 4294968497 p ∷ on_panel (1 ∷ []) 0xFFFFFFFFFFFFFFFF p ∷ []) one-panel;
      second_counted = ap (on_panel (0 ∷ 1 ∷ 2 ∷ []) 1400) two-panel;
      second_clock = ap (on_panel (0 ∷ 1 ∷ []) 1299) two-panel;
      second_older = ap (on_panel (1 ∷ []) 1801) two-panel;
      second_linked = ap (λ (p : Panel). on_panel (1 ∷ []) 1400 (panel_next p (link_up New 1400))) two-panel;
      green_after_old = then-arm (1 ∷ []) 2000 (λ p. p) 2000 (panel_after one_counted) one_panel one-panel;
      shortest =
          ap (λ (r : CallResult). on_panel (0 ∷ []) 1201 r.panel ∷ on_panel (0 ∷ []) 1202 r.panel ∷ []) (arm-sent (panel_after short_tile) 1200);
      green_again = then-arm (1 ∷ []) 1500 (λ p. panel_next p (link_up New 1400)) 1500 (panel_after two_counted) two_panel two-panel;
      green_after_down =
          then-arm (1 ∷ []) 1600 (λ p. panel_next (panel_next p (link_down 1400)) (link_up New 1450)) 1500 (panel_after two_counted) two_panel two-panel;
      green_kept = ap (λ (p : Panel). on_panel (1 ∷ 3 ∷ []) 1400 (panel_next (panel_next p (add position_text (65 ∷ []) 1)) (link_down 1299))) two-panel;
      refused_message = down-sent;
      same_message = then-arm (1 ∷ []) 1400 (λ p. p) 1300 (panel_after one_counted) one_panel one-panel;
      same_clock =
          then-sent (1 ∷ []) 1200 (λ p. p) 1200 zero_bytes zero_answer (panel_after one_counted) one_panel one-panel (samples.zeros one_panel.link.layout);
      link_same_clock =
          ap (λ (p : Panel). on_panel (1 ∷ []) 1200 (panel_next p (link_up New 1200)) ∷ on_panel (1 ∷ []) 1200 (panel_next p (link_down 1200)) ∷ []) one-panel;
      both-counted = ap (on_panel (0 ∷ 1 ∷ []) 1400) both-panel;
      both_older = ap (on_panel (0 ∷ 1 ∷ []) 61300) both-panel;
      both_oldest = ap (on_panel (0 ∷ 1 ∷ []) 61301) both-panel;
      both_linked = ap (λ (p : Panel). on_panel (0 ∷ 1 ∷ []) 1400 (panel_next p (link_up New 1400))) both-panel;
      one_again =
          then-sent (0 ∷ 1 ∷ []) 1600 (λ p. panel_next p (link_up New 1400)) 1500 (point_bytes New) point_answer (panel_after both_counted) both_panel both-panel
          (samples.point New).read;
      both_down = ap (λ (p : Panel). on_panel (0 ∷ 1 ∷ []) 1400 (panel_next p (link_down 1400))) both-panel;
      other_message = ap (on_panel (0 ∷ 1 ∷ []) 1750) both-panel;
      other_clock = ap (on_panel (0 ∷ []) 1250) both-panel;
      other_way =
          then-arm (0 ∷ 1 ∷ []) 1400 (λ p. p) 1300 (message_of (panel_after two_tiles) 1200 (point_bytes New)).panel
          (message_read (panel_after two_tiles) 1200 (point_bytes New) point_answer).panel
          (ap (λ (r : CallResult). r.panel) (point-sent New (panel_after two_tiles) 1200 refl));
      position_counted = ap (λ (r : CallResult). on_panel (0 ∷ 1 ∷ []) 1400 r.panel) (point-sent New (panel_after one_name) 1300 refl);
      long_position =
          then-sent (0 ∷ 1 ∷ 2 ∷ []) 1750 (λ p. p) 1300 (position_bytes 28) (position_answer 28) (panel_after one_counted) one_panel one-panel
          (samples.position_28 one_panel.link.layout);
      short_position =
          then-sent (1 ∷ 2 ∷ []) 1400 (λ p. p) 1300 (position_bytes 12) (position_answer 12) (panel_after one_counted) one_panel one-panel
          (samples.position_12 one_panel.link.layout);
      type_added = ap (λ (p : Panel). on_panel (0 ∷ 1 ∷ []) 1700 (panel_next p (add position_text arm_text 500))) arm-panel;
      four_links =
          ap (λ (p : Panel). on_panel (1 ∷ []) 1400 (foldl panel_next p (link_down 1300 ∷ link_up New 1300 ∷ link_down 1400 ∷ link_up New 1400 ∷ []))) one-panel;
      many_links = ap (λ (p : Panel). on_panel (1 ∷ []) 1400 (foldl panel_next p (replicate 256 (link_up New 1400)))) one-panel;
      before_adding = ap (on_panel (0 ∷ []) 1000) added-panel;
      after_adding = then-arm (0 ∷ []) 1300 (λ p. p) 1100 (panel_after added_late) added_panel added-panel;
      down_twice = refl;
      last-counted = ap (on_panel (0 ∷ 14 ∷ 15 ∷ 16 ∷ []) 1700) last-panel;
      last_linked = ap (λ (p : Panel). on_panel (15 ∷ []) 1400 (panel_next p (link_down 1300))) last-panel;
      late-counted = ap (λ (r : CallResult). on_panel (0 ∷ []) 0xFFFFFFFFFFFFFFFF r.panel) (arm-sent (panel_after late_calls) 0xFFFFFFFFFFFFFF01);
      late_clock = ap (λ (r : CallResult). on_panel (0 ∷ []) 0xFFFFFFFFFFFFFF00 r.panel) (arm-sent (panel_after late_calls) 0xFFFFFFFFFFFFFF01);
      at_zero =
          ap (λ (r : CallResult). on_panel (0 ∷ []) 0 r.panel) (arm-sent (panel_after (add transform_text arm_text 500 ∷ link_up New 0 ∷ [])) 0);
      named =
          by_layout (λ l. PointShown (point_linked l) l)
          (then-point New (panel_after (point_linked New)) refl)
          (then-point Old (panel_after (point_linked Old)) refl);
      not_named = λ l. ap stream_fault (sent (panel_after (point_linked (other_than l))) 20 (point_bytes l) (read.refused 6 109) (samples.other-point l));
      refused_named =
          by_layout (λ l. PointShown (point_linked l ++ (link_up (other_than l) 9 ∷ [])) l)
          (then-point New (panel_after (point_linked New ++ (link_up Old 9 ∷ []))) refl)
          (then-point Old (panel_after (point_linked Old ++ (link_up New 9 ∷ []))) refl);
      other_named =
          by_layout (λ l. PointShown (point_linked (other_than l) ++ (link_up l 10 ∷ [])) l)
          (then-point New (panel_after (point_linked Old ++ (link_up New 10 ∷ []))) refl)
          (then-point Old (panel_after (point_linked New ++ (link_up Old 10 ∷ []))) refl);
      named_again =
          by_layout (λ l. PointShown (point_linked (other_than l) ++ (link_down 11 ∷ link_up l 12 ∷ [])) l)
          (then-point New (panel_after (point_linked Old ++ (link_down 11 ∷ link_up New 12 ∷ []))) refl)
          (then-point Old (panel_after (point_linked New ++ (link_down 11 ∷ link_up Old 12 ∷ []))) refl);
      named_down = down-point;
      arm_added = refl;
      arm_twice = ap (λ (p : Panel). (add_of p transform_text arm_text 500).answer) arm-panel;
      arm_second = ap (λ (p : Panel). (add_of p position_text arm_text 500).answer) arm-panel;
      last_added = refl;
      none_added = refl;
      last_twice = refl;
      arm_early_link = ap (λ (p : Panel). (link_of true New p 1199).number) arm-panel;
      arm_counted =
          ap stream_fault (arm-sent (linked_panel New) 1200);
      arm_more = ap stream_fault (sent (linked_panel New) 1200 (arm_bytes ++ (7 ∷ [])) arm_answer (samples.arm New).read_more);
      arm_damaged = ap stream_fault (sent (linked_panel New) 1200 damaged_bytes (read.refused 5 106) (samples.arm New).damaged);
      arm_unknown = ap stream_fault (point-sent New (linked_panel New) 1200 refl);
      arm_down = down-number;
      arm_green = arm-look 0 1700 (look-answer.Green 500) arm_value refl;
      arm_grey = arm-look 0 1701 (look-answer.Grey 501) arm_value refl;
      arm_early = arm-look 0 1199 (look-answer.Refused 15) zero_value refl;
      arm_not_there = arm-look 1 1199 (look-answer.Refused 19) zero_value refl;
      arm_empty = refl;
      point_value = ap (λ (p : Panel). (look_of p 1 1400).value) both-panel;
      add_answers = λ n. (refl, refl);
      call_answers = (refl, (λ n. ap (λ (t : Bool). cond t accepted (refused (suc n))) (eqb-suc-zero n)));
      look_answers = λ n. refl;
      short_value = refl;
      -- the look is not refused by the book, so it shows what the history says
      arm_shown = λ R.
          subst (Shown R arm_bytes_calls 0 1700) (ap (λ (p : Panel). answer_to p (look 0 1700)) arm-panel)
          (((demand-3.claim R arm_bytes_calls (tt, (tt, (book-examples.calls.1.1.0, tt)))).after 0 1700).acceptance
          (ap (λ (b : Summary). fault_on R b (look 0 1700)) (book-examples.on_books R).arm));
    }
