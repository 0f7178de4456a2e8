-- Cases P10 to P12 of rule 8.1, and a cable that comes loose and is put back, for every TRANSFORM message from the device Arm; such a message
-- byte by byte, and what the tile then shows; runs of calls on one, two, three and sixteen tiles.
use Rattle.std.specs.Prelude.{ℕ, suc, ◌≡◌, true, List, [], ◌∷◌, ◌++◌, map, replicate}
use Rattle.content.specs.Kinds.{transform_text, position_text}
use Rattle.content.specs.Tree.{type_text}
use Rattle.message.specs.declared.Layout.{Layout}
use Rattle.message.specs.declared.Layout.TheVariants.{New}
use Rattle.message.specs.Message.{Message, WellFormed, encode}
use Rattle.message.specs.Samples.{arm_text, arm_message, arm_bytes, arm_content, zero_bytes, position_bytes, point_text, point_bytes, point_content, other_than}
use Rattle.message.specs.ReceivedSamples.{tracker_message, tracker_bytes}
use Rattle.history.specs.BookExamples.{arm_bytes_calls, damaged_bytes}
use Rattle.history.specs.Examples.{name_of}
use Rattle.history.specs.Calls.{Call, add, link_up, link_down, message, look, Entry, green, grey, Answer, refused, accepted, added, empty, shown}
use Rattle.history.specs.Reading.{Reader}
use Rattle.history.specs.History.{value_for, Shown}
use Rattle.panel.specs.declared.Value.{Value}
use Rattle.panel.specs.Records as add-answer
use Rattle.panel.specs.declared.LookAnswer.{LookAnswer}
use Rattle.panel.specs.declared.LookAnswer.TheVariants as look-answer
use Rattle.panel.specs.Tiles.{value_of}
use Rattle.panel.specs.Calls.{fresh_panel, add_of, link_of, message_of, look_of}
use Rattle.panel.specs.Answers.{add_answer, call_answer, look_answer}
use Rattle.panel.specs.Demand3.{answer_to, panel_after}

pub record FromArm (l : Layout) (m : Message) : Type 0 where
  pub well : WellFormed l m
  pub is_transform : type_text m.content ≡ transform_text
  pub is_arm : m.device_name ≡ arm_text

-- a tile for Arm with this hold time
abbrev pub arm_tile : ℕ → Entry
arm_tile h = record { type_text = transform_text; name = arm_text; hold_time = h }

-- that tile, link up at 1000, and the message at 1200
abbrev pub arm_calls_with : Layout → ℕ → Message → List Call
arm_calls_with l h m = add transform_text arm_text h ∷ link_up l 1000 ∷ message 1200 (encode l m) ∷ []

-- the calls of P10 before its look
abbrev pub arm_calls : Layout → Message → List Call
arm_calls l m = arm_calls_with l 500 m

abbrev pub looked : List Call → ℕ → Answer
looked cs now = answer_to (panel_after cs) (look 0 now)

-- the first two calls of P10
abbrev pub arm_linked : Layout → List Call
arm_linked l = add transform_text arm_text 500 ∷ link_up l 1000 ∷ []

-- after the calls of P10 before its look, with the bytes of a message from Arm: a look at tile i gives this answer and value, and the panel as
-- it was
abbrev pub ArmLook : ℕ → ℕ → LookAnswer → Value → Type 0
ArmLook i now a v = look_of (panel_after arm_bytes_calls) i now ≡ record { panel = panel_after arm_bytes_calls; answer = a; value = v }

-- three tiles: TRANSFORM "A", TRANSFORM "Arm", POSITION "Arm", of which the second has the hold time 500; link up at 1000
abbrev pub three_tiles : List Call
three_tiles =
    add transform_text (65 ∷ []) 60000
    ∷ add transform_text arm_text 500
    ∷ add position_text arm_text 60000
    ∷ link_up New 1000
    ∷ []

-- a message from Arm, and another with all words 0
abbrev pub one_counted : List Call
one_counted = three_tiles ++ (message 1200 arm_bytes ∷ [])

abbrev pub two_counted : List Call
two_counted = one_counted ++ (message 1300 zero_bytes ∷ [])

-- two tiles: TRANSFORM "Arm" with the hold time 500, and POSITION with a name of 20 bytes and the hold time 60,000; a message for each
abbrev pub two_tiles : List Call
two_tiles = add transform_text arm_text 500 ∷ add position_text point_text 60000 ∷ link_up New 1000 ∷ []

abbrev pub both_counted : List Call
both_counted = two_tiles ++ (message 1200 arm_bytes ∷ message 1300 (point_bytes New) ∷ [])

-- the same messages the other way round
abbrev pub other_way : List Call
other_way = two_tiles ++ (message 1200 (point_bytes New) ∷ message 1300 arm_bytes ∷ [])

-- a tile of each type with one name of 20 bytes, and a message for the second
abbrev pub one_name : List Call
one_name = add transform_text point_text 500 ∷ add position_text point_text 500 ∷ link_up New 1000 ∷ []

abbrev pub one_name_counted : List Call
one_name_counted = one_name ++ (message 1300 (point_bytes New) ∷ [])

-- the shortest hold time
abbrev pub short_tile : List Call
short_tile = add transform_text arm_text 1 ∷ link_up New 1000 ∷ []

abbrev pub short_counted : List Call
short_counted = short_tile ++ (message 1200 arm_bytes ∷ [])

-- fifteen TRANSFORM tiles, whose names have 1 to 15 bytes; "Arm" as the last of sixteen, and a message for it
abbrev pub fifteen_tiles : List Call
fifteen_tiles =
    map (λ n. add transform_text (name_of n) 500) (1 ∷ 2 ∷ 3 ∷ 4 ∷ 5 ∷ 6 ∷ 7 ∷ 8 ∷ 9 ∷ 10 ∷ 11 ∷ 12 ∷ 13 ∷ 14 ∷ 15 ∷ [])

abbrev pub sixteen_tiles : List Call
sixteen_tiles = fifteen_tiles ++ (add transform_text arm_text 500 ∷ link_up New 1000 ∷ [])

abbrev pub last_counted : List Call
last_counted = sixteen_tiles ++ (message 1200 arm_bytes ∷ [])

-- a tile that is added on a link that is up, after a message for it
abbrev pub added_late : List Call
added_late = link_up New 1000 ∷ message 1200 arm_bytes ∷ add transform_text arm_text 500 ∷ []

-- a POSITION tile with a name of 20 bytes, and a link up that names this layout
abbrev pub point_linked : Layout → List Call
point_linked l = add position_text point_text 500 ∷ link_up l 10 ∷ []

-- the latest clocks
abbrev pub late_calls : List Call
late_calls = add transform_text arm_text 500 ∷ link_up New 0xFFFFFFFFFFFFFF00 ∷ []

abbrev pub late_counted : List Call
late_counted = late_calls ++ (message 0xFFFFFFFFFFFFFF01 arm_bytes ∷ [])

-- what looks at these tiles answer
abbrev pub looked_all : List Call → List ℕ → ℕ → List Answer
looked_all cs tiles now = map (λ i. answer_to (panel_after cs) (look i now)) tiles

-- the values: the message's content; none; 01 02 03
abbrev pub arm_value : Value
arm_value = record { bytes = arm_content; len = 48 }

abbrev pub zero_value : Value
zero_value = record { bytes = replicate 48 0; len = 0 }

abbrev pub three_bytes : Value
three_bytes = record { bytes = 1 ∷ 2 ∷ 3 ∷ replicate 45 0; len = 3 }

-- after these calls a POSITION in this layout counts for tile 0, and its value is shown
abbrev pub PointShown : List Call → Layout → Type 0
PointShown cs l = looked (cs ++ (message 20 (point_bytes l) ∷ [])) 20 ≡ shown green 0 point_content

pub record Examples : Type 0 where
  -- in each layout; a later link up may name any
  pub p10 : (l : Layout) (m : Message) → FromArm l m → looked (arm_calls l m) 1700 ≡ shown green 500 (value_for m (arm_tile 500))
  pub p11 : (l : Layout) (m : Message) → FromArm l m → looked (arm_calls l m) 1701 ≡ shown grey 501 (value_for m (arm_tile 500))
  pub p11_before : (l : Layout) (m : Message) → FromArm l m → looked (arm_calls l m) 1199 ≡ refused 15
  pub p12 : (l o : Layout) (m : Message) → FromArm l m → looked (arm_calls l m ++ (link_up o 1400 ∷ [])) 1400 ≡ shown grey 200 (value_for m (arm_tile 500))
  -- the cable comes loose; the cable is put back
  pub loose_cable : (l : Layout) (m : Message) → FromArm l m → looked (arm_calls l m ++ (link_down 1400 ∷ [])) 1400 ≡ shown grey 200 (value_for m (arm_tile 500))
  pub reconnect : (l o : Layout) (m : Message) → FromArm l m → looked (arm_calls l m ++ (link_down 1300 ∷ link_up o 1400 ∷ [])) 1400 ≡ shown grey 200 (value_for m (arm_tile 500))
  -- a shorter hold time; a link call that is refused; a second message, whose value and age are shown
  pub short_hold_time : (l : Layout) (m : Message) → FromArm l m → looked (arm_calls_with l 499 m) 1700 ≡ shown grey 500 (value_for m (arm_tile 499))
  pub refused_link : (l o : Layout) (m : Message) → FromArm l m → looked (arm_calls l m ++ (link_up o 1199 ∷ [])) 1700 ≡ shown green 500 (value_for m (arm_tile 500))
  pub second_message : (l : Layout) (m n : Message) → FromArm l m → FromArm l n
      → looked (arm_calls l m ++ (message 1300 (encode l n) ∷ [])) 1700 ≡ shown green 400 (value_for n (arm_tile 500))
  -- there is such a message, and these are its bytes; P12 of them. P10 and P11 follow from arm_green, arm_grey and arm_early
  pub arm : (l : Layout) → FromArm l arm_message
  pub arm-bytes : (l : Layout) → encode l arm_message ≡ arm_bytes
  pub arm_p12 : looked (arm_bytes_calls ++ (link_up New 1400 ∷ [])) 1400 ≡ shown grey 200 arm_content
  -- such a message need not be clean: a tile takes messages by their texts (rule 13.7). P10 of one that is not
  pub tracker : (l : Layout) → FromArm l tracker_message
  pub tracker_green : (l : Layout)
      → looked (arm_linked l ++ (message 1200 (tracker_bytes (0 ∷ 0xFF ∷ 0x80 ∷ []) (0 ∷ replicate 16 0x99)) ∷ [])) 1700 ≡ shown green 500 (replicate 48 7)
  -- of three tiles: a message counts for the one of its type and name, by whose hold time it is judged
  pub counted-for : looked_all one_counted (0 ∷ 1 ∷ 2 ∷ 3 ∷ []) 1700 ≡ empty ∷ shown green 500 arm_content ∷ empty ∷ refused 19 ∷ []
  pub counted_older : looked_all one_counted (0 ∷ 1 ∷ 2 ∷ []) 1701 ≡ empty ∷ shown grey 501 arm_content ∷ empty ∷ []
  -- the age is not cut off: 2^32 ms and one; the latest clock
  pub counted_long_ago : looked_all one_counted (1 ∷ []) 4294968497 ∷ looked_all one_counted (1 ∷ []) 0xFFFFFFFFFFFFFFFF ∷ []
      ≡ (shown grey 4294967297 arm_content ∷ []) ∷ (shown grey 0xFFFFFFFFFFFFFB4F arm_content ∷ []) ∷ []
  -- the second message: its value and its age; the panel's clock is 1300 then
  pub second_counted : looked_all two_counted (0 ∷ 1 ∷ 2 ∷ []) 1400 ≡ empty ∷ shown green 100 (replicate 48 0) ∷ empty ∷ []
  pub second_clock : looked_all two_counted (0 ∷ 1 ∷ []) 1299 ≡ refused 15 ∷ refused 15 ∷ []
  -- grey after two messages, by the age and by a link call; green by a message after the tile was grey by its age
  pub second_older : looked_all two_counted (1 ∷ []) 1801 ≡ shown grey 501 (replicate 48 0) ∷ []
  pub second_linked : looked_all (two_counted ++ (link_up New 1400 ∷ [])) (1 ∷ []) 1400 ≡ shown grey 100 (replicate 48 0) ∷ []
  pub green_after_old : looked_all (one_counted ++ (message 2000 arm_bytes ∷ [])) (1 ∷ []) 2000 ≡ shown green 0 arm_content ∷ []
  -- both sides of the shortest hold time
  pub shortest : looked_all short_counted (0 ∷ []) 1201 ∷ looked_all short_counted (0 ∷ []) 1202 ∷ []
      ≡ (shown green 1 arm_content ∷ []) ∷ (shown grey 2 arm_content ∷ []) ∷ []
  -- a new link and a message on it, also after the link was down; a fourth tile and a refused link call change no colour
  pub green_again : looked_all (two_counted ++ (link_up New 1400 ∷ message 1500 arm_bytes ∷ [])) (1 ∷ []) 1500 ≡ shown green 0 arm_content ∷ []
  pub green_after_down : looked_all (two_counted ++ (link_down 1400 ∷ link_up New 1450 ∷ message 1500 arm_bytes ∷ [])) (1 ∷ []) 1600
      ≡ shown green 100 arm_content ∷ []
  pub green_kept : looked_all (two_counted ++ (add position_text (65 ∷ []) 1 ∷ link_down 1299 ∷ [])) (1 ∷ 3 ∷ []) 1400
      ≡ shown green 100 (replicate 48 0) ∷ empty ∷ []
  -- a message that is refused with 14 moves no clock
  pub refused_message : looked (add transform_text arm_text 500 ∷ message 1500 arm_bytes ∷ []) 0 ≡ empty
  -- the same message again; two messages at one clock: the second is the last; a link call after a message at one clock
  pub same_message : looked_all (one_counted ++ (message 1300 arm_bytes ∷ [])) (1 ∷ []) 1400 ≡ shown green 100 arm_content ∷ []
  pub same_clock : looked_all (one_counted ++ (message 1200 zero_bytes ∷ [])) (1 ∷ []) 1200 ≡ shown green 0 (replicate 48 0) ∷ []
  pub link_same_clock : looked_all (one_counted ++ (link_up New 1200 ∷ [])) (1 ∷ []) 1200
      ∷ looked_all (one_counted ++ (link_down 1200 ∷ [])) (1 ∷ []) 1200
      ∷ []
      ≡ (shown grey 0 arm_content ∷ []) ∷ (shown grey 0 arm_content ∷ []) ∷ []
  -- a message for each of two tiles: each has its own value, age and hold time; a new link; a message on it for the second; the link is down
  pub both-counted : looked_all both_counted (0 ∷ 1 ∷ []) 1400 ≡ shown green 200 arm_content ∷ shown green 100 point_content ∷ []
  pub both_older : looked_all both_counted (0 ∷ 1 ∷ []) 61300 ≡ shown grey 60100 arm_content ∷ shown green 60000 point_content ∷ []
  pub both_oldest : looked_all both_counted (0 ∷ 1 ∷ []) 61301 ≡ shown grey 60101 arm_content ∷ shown grey 60001 point_content ∷ []
  pub both_linked : looked_all (both_counted ++ (link_up New 1400 ∷ [])) (0 ∷ 1 ∷ []) 1400
      ≡ shown grey 200 arm_content ∷ shown grey 100 point_content ∷ []
  pub one_again : looked_all (both_counted ++ (link_up New 1400 ∷ message 1500 (point_bytes New) ∷ [])) (0 ∷ 1 ∷ []) 1600
      ≡ shown grey 400 arm_content ∷ shown green 100 point_content ∷ []
  pub both_down : looked_all (both_counted ++ (link_down 1400 ∷ [])) (0 ∷ 1 ∷ []) 1400
      ≡ shown grey 200 arm_content ∷ shown grey 100 point_content ∷ []
  -- the message for the second tile does not keep the first green; the clock is the panel's, not the tile's
  pub other_message : looked_all both_counted (0 ∷ 1 ∷ []) 1750 ≡ shown grey 550 arm_content ∷ shown green 450 point_content ∷ []
  pub other_clock : looked_all both_counted (0 ∷ []) 1250 ≡ refused 15 ∷ []
  pub other_way : looked_all other_way (0 ∷ 1 ∷ []) 1400 ≡ shown green 100 arm_content ∷ shown green 200 point_content ∷ []
  -- tiles of one name: a message counts for the one of its type, and POSITIONs of 28 and 12 bytes do; an add of the other type
  pub position_counted : looked_all one_name_counted (0 ∷ 1 ∷ []) 1400 ≡ empty ∷ shown green 100 point_content ∷ []
  pub long_position : looked_all (one_counted ++ (message 1300 (position_bytes 28) ∷ [])) (0 ∷ 1 ∷ 2 ∷ []) 1750
      ≡ empty ∷ shown grey 550 arm_content ∷ shown green 450 (replicate 28 0) ∷ []
  pub short_position : looked_all (one_counted ++ (message 1300 (position_bytes 12) ∷ [])) (1 ∷ 2 ∷ []) 1400
      ≡ shown green 200 arm_content ∷ shown green 100 (replicate 12 0) ∷ []
  pub type_added : looked_all (arm_bytes_calls ++ (add position_text arm_text 500 ∷ [])) (0 ∷ 1 ∷ []) 1700 ≡ shown green 500 arm_content ∷ empty ∷ []
  -- many link calls
  pub four_links : looked_all (one_counted ++ (link_down 1300 ∷ link_up New 1300 ∷ link_down 1400 ∷ link_up New 1400 ∷ [])) (1 ∷ []) 1400
      ≡ shown grey 200 arm_content ∷ []
  pub many_links : looked_all (one_counted ++ replicate 256 (link_up New 1400)) (1 ∷ []) 1400 ≡ shown grey 200 arm_content ∷ []
  -- a message before the adding: it is refused, and the clock stays; one after it, at an earlier clock
  pub before_adding : looked_all added_late (0 ∷ []) 1000 ≡ empty ∷ []
  pub after_adding : looked_all (added_late ++ (message 1100 arm_bytes ∷ [])) (0 ∷ []) 1300 ≡ shown green 200 arm_content ∷ []
  -- a link down while the link is down
  pub down_twice : looked_all (add transform_text arm_text 500 ∷ link_down 1000 ∷ link_down 1100 ∷ []) (0 ∷ []) 1099 ≡ refused 15 ∷ []
  -- the last of sixteen tiles, and a link call after its message
  pub last-counted : looked_all last_counted (0 ∷ 14 ∷ 15 ∷ 16 ∷ []) 1700 ≡ empty ∷ empty ∷ shown green 500 arm_content ∷ refused 19 ∷ []
  pub last_linked : looked_all (last_counted ++ (link_down 1300 ∷ [])) (15 ∷ []) 1400 ≡ shown grey 200 arm_content ∷ []
  -- the latest clocks
  pub late-counted : looked_all late_counted (0 ∷ []) 0xFFFFFFFFFFFFFFFF ≡ shown green 254 arm_content ∷ []
  pub late_clock : looked_all late_counted (0 ∷ []) 0xFFFFFFFFFFFFFF00 ≡ refused 15 ∷ []
  -- all at clock 0
  pub at_zero : looked_all (add transform_text arm_text 500 ∷ link_up New 0 ∷ message 0 arm_bytes ∷ []) (0 ∷ []) 0 ≡ shown green 0 arm_content ∷ []
  -- a message counts in the layout that the link up named (rule 7.11), and else is 6; a refused link up names nothing; a link up while the link
  -- is up, and one after a link down, name another; a link down names none
  pub named : (l : Layout) → PointShown (point_linked l) l
  pub not_named : (l : Layout) → (message_of (panel_after (point_linked (other_than l))) 20 (point_bytes l)).number ≡ 6
  pub refused_named : (l : Layout) → PointShown (point_linked l ++ (link_up (other_than l) 9 ∷ [])) l
  pub other_named : (l : Layout) → PointShown (point_linked (other_than l) ++ (link_up l 10 ∷ [])) l
  pub named_again : (l : Layout) → PointShown (point_linked (other_than l) ++ (link_down 11 ∷ link_up l 12 ∷ [])) l
  pub named_down : (l : Layout) → (message_of (panel_after (point_linked l ++ (link_down 11 ∷ []))) 20 (point_bytes l)).number ≡ 14
  -- the same in the code's words: adds, 17 before 18; a link call; messages that count, are followed by a byte, have another last byte, are for
  -- no tile, and meet a link that is down; looks
  pub arm_added : (add_of fresh_panel transform_text arm_text 500).answer ≡ add-answer.Added 0
  pub arm_twice : (add_of (panel_after arm_bytes_calls) transform_text arm_text 500).answer ≡ add-answer.Refused 17
  pub arm_second : (add_of (panel_after arm_bytes_calls) position_text arm_text 500).answer ≡ add-answer.Added 1
  pub last_added : (add_of (panel_after fifteen_tiles) transform_text arm_text 500).answer ≡ add-answer.Added 15
  pub none_added : (add_of (panel_after sixteen_tiles) position_text arm_text 500).answer ≡ add-answer.Refused 18
  pub last_twice : (add_of (panel_after sixteen_tiles) transform_text arm_text 500).answer ≡ add-answer.Refused 17
  pub arm_early_link : (link_of true New (panel_after arm_bytes_calls) 1199).number ≡ 15
  pub arm_counted : (message_of (panel_after (arm_linked New)) 1200 arm_bytes).number ≡ 0
  pub arm_more : (message_of (panel_after (arm_linked New)) 1200 (arm_bytes ++ (7 ∷ []))).number ≡ 12
  pub arm_damaged : (message_of (panel_after (arm_linked New)) 1200 damaged_bytes).number ≡ 5
  pub arm_unknown : (message_of (panel_after (arm_linked New)) 1200 (point_bytes New)).number ≡ 13
  pub arm_down : (message_of (panel_after (add transform_text arm_text 500 ∷ [])) 1200 arm_bytes).number ≡ 14
  pub arm_green : ArmLook 0 1700 (look-answer.Green 500) arm_value
  pub arm_grey : ArmLook 0 1701 (look-answer.Grey 501) arm_value
  pub arm_early : ArmLook 0 1199 (look-answer.Refused 15) zero_value
  pub arm_not_there : ArmLook 1 1199 (look-answer.Refused 19) zero_value
  pub arm_empty : (look_of (panel_after (add transform_text arm_text 500 ∷ [])) 0 0).answer ≡ look-answer.Empty
  -- the value of a POSITION of 24 bytes
  pub point_value : (look_of (panel_after both_counted) 1 1400).value ≡ record { bytes = point_content ++ replicate 24 0; len = 24 }
  -- what these say, of every number
  pub add_answers : (n : ℕ) → (add_answer (add-answer.Added n) ≡ added n) × (add_answer (add-answer.Refused n) ≡ refused n)
  pub call_answers : (call_answer 0 ≡ accepted) × ((n : ℕ) → call_answer (suc n) ≡ refused (suc n))
  pub look_answers : (n : ℕ) → map (λ a. look_answer a three_bytes) (look-answer.Empty ∷ look-answer.Green n ∷ look-answer.Grey n ∷ look-answer.Refused n ∷ [])
      ≡ empty ∷ shown green n (1 ∷ 2 ∷ 3 ∷ []) ∷ shown grey n (1 ∷ 2 ∷ 3 ∷ []) ∷ refused n ∷ []
  -- a value of three bytes, as a tile keeps it
  pub short_value : value_of (1 ∷ 2 ∷ 3 ∷ []) ≡ three_bytes
  -- what the history says of P10
  pub arm_shown : (R : Reader) → Shown R arm_bytes_calls 0 1700 (shown green 500 arm_content)
