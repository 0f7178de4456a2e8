-- Examples of scripts byte by byte, and of what running one gives.
use Rattle.std.specs.Prelude.{ℕ, ◌≡◌, Some, None, List, [], ◌∷◌, ◌++◌, map, replicate}
use Rattle.std.proofs.Math.Option.{none, some}
use Rattle.fields.specs.Layout.{join}
use Rattle.message.specs.Samples.{arm_bytes}
use Rattle.message.specs.declared.Layout.TheVariants.{New, Old}
use Rattle.history.specs.Calls.{Call, add, link_up, link_down, message, look, green, grey, refused, accepted, added, empty, shown}
use Rattle.panel.specs.Examples.{arm_value, zero_value}
use Rattle.panel.specs.declared.Value.{Value}
use Rattle.replay.specs.declared.CallAnswer as code
use Rattle.replay.specs.declared.CallAnswer.TheVariants as said
use Rattle.replay.specs.Records.{CallAnswer, Accepted, Added, Empty, Green, Grey, Refused, NoCall, Answered, answer_of, answered_in}
use Rattle.replay.specs.Script.{calls_in}
use Rattle.replay.specs.Replay.{answer_at, look_after, saying}

-- ---- five calls. The rows of each: which call, the clock, the number, the two lengths, the two parts

abbrev pub five_bytes : List ℕ
five_bytes =
    join
    ((0 ∷ [])
    ∷ (0x01 ∷ 0x02 ∷ 0x03 ∷ 0x04 ∷ 0x05 ∷ 0x06 ∷ 0x07 ∷ 0x08 ∷ [])
    ∷ (0x11 ∷ 0x12 ∷ 0x13 ∷ 0x14 ∷ 0x15 ∷ 0x16 ∷ 0x17 ∷ 0x18 ∷ [])
    ∷ (0 ∷ 0 ∷ 0 ∷ 2 ∷ 0 ∷ 0 ∷ 0 ∷ 3 ∷ [])
    ∷ (0x21 ∷ 0x22 ∷ 0x31 ∷ 0x32 ∷ 0x33 ∷ [])
    ∷ (1 ∷ [])
    ∷ (0x41 ∷ 0x42 ∷ 0x43 ∷ 0x44 ∷ 0x45 ∷ 0x46 ∷ 0x47 ∷ 0x48 ∷ [])
    ∷ (0x51 ∷ 0x52 ∷ 0x53 ∷ 0x54 ∷ 0x55 ∷ 0x56 ∷ 0x57 ∷ 0x58 ∷ [])
    ∷ (0 ∷ 0 ∷ 0 ∷ 1 ∷ 0 ∷ 0 ∷ 0 ∷ 2 ∷ [])
    ∷ (0x61 ∷ 0x62 ∷ 0x63 ∷ [])
    ∷ (2 ∷ [])
    ∷ (0x71 ∷ 0x72 ∷ 0x73 ∷ 0x74 ∷ 0x75 ∷ 0x76 ∷ 0x77 ∷ 0x78 ∷ [])
    ∷ (0x81 ∷ 0x82 ∷ 0x83 ∷ 0x84 ∷ 0x85 ∷ 0x86 ∷ 0x87 ∷ 0x88 ∷ [])
    ∷ (0 ∷ 0 ∷ 0 ∷ 0 ∷ 0 ∷ 0 ∷ 0 ∷ 0 ∷ [])
    ∷ (3 ∷ [])
    ∷ (0x91 ∷ 0x92 ∷ 0x93 ∷ 0x94 ∷ 0x95 ∷ 0x96 ∷ 0x97 ∷ 0x98 ∷ [])
    ∷ (0xA1 ∷ 0xA2 ∷ 0xA3 ∷ 0xA4 ∷ 0xA5 ∷ 0xA6 ∷ 0xA7 ∷ 0xA8 ∷ [])
    ∷ (0 ∷ 0 ∷ 0 ∷ 3 ∷ 0 ∷ 0 ∷ 0 ∷ 1 ∷ [])
    ∷ (0xB1 ∷ 0xB2 ∷ 0xB3 ∷ 0xB4 ∷ [])
    ∷ (4 ∷ [])
    ∷ (0xC1 ∷ 0xC2 ∷ 0xC3 ∷ 0xC4 ∷ 0xC5 ∷ 0xC6 ∷ 0xC7 ∷ 0xC8 ∷ [])
    ∷ (0xD1 ∷ 0xD2 ∷ 0xD3 ∷ 0xD4 ∷ 0xD5 ∷ 0xD6 ∷ 0xD7 ∷ 0xD8 ∷ [])
    ∷ (0 ∷ 0 ∷ 0 ∷ 0 ∷ 0 ∷ 0 ∷ 0 ∷ 0 ∷ [])
    ∷ [])

abbrev pub five_calls : List Call
five_calls =
    add (0x21 ∷ 0x22 ∷ []) (0x31 ∷ 0x32 ∷ 0x33 ∷ []) 0x1112131415161718
    ∷ link_up New 0x4142434445464748
    ∷ link_down 0x7172737475767778
    ∷ message 0x9192939495969798 (0xB1 ∷ 0xB2 ∷ 0xB3 ∷ [])
    ∷ look 0xD1D2D3D4D5D6D7D8 0xC1C2C3C4C5C6C7C8
    ∷ []

-- ---- P10's calls: the tile Arm with hold time 500, link up at 1000, its message at 1200; looks at 1700 and 1701

abbrev pub arm_script : List ℕ
arm_script =
    join
    ((0 ∷ 0 ∷ 0 ∷ 0 ∷ 0 ∷ 0 ∷ 0 ∷ 0 ∷ 0 ∷ 0 ∷ 0 ∷ 0 ∷ 0 ∷ 0 ∷ 0 ∷ 1 ∷ 244 ∷ 0 ∷ 0 ∷ 0 ∷ 9 ∷ 0 ∷ 0 ∷ 0 ∷ 3 ∷ [])
    ∷ (84 ∷ 82 ∷ 65 ∷ 78 ∷ 83 ∷ 70 ∷ 79 ∷ 82 ∷ 77 ∷ 65 ∷ 114 ∷ 109 ∷ [])
    ∷ (1 ∷ 0 ∷ 0 ∷ 0 ∷ 0 ∷ 0 ∷ 0 ∷ 3 ∷ 232 ∷ 0 ∷ 0 ∷ 0 ∷ 0 ∷ 0 ∷ 0 ∷ 0 ∷ 0 ∷ 0 ∷ 0 ∷ 0 ∷ 0 ∷ 0 ∷ 0 ∷ 0 ∷ 0 ∷ [])
    ∷ (3 ∷ 0 ∷ 0 ∷ 0 ∷ 0 ∷ 0 ∷ 0 ∷ 4 ∷ 176 ∷ 0 ∷ 0 ∷ 0 ∷ 0 ∷ 0 ∷ 0 ∷ 0 ∷ 0 ∷ 0 ∷ 0 ∷ 0 ∷ 106 ∷ 0 ∷ 0 ∷ 0 ∷ 0 ∷ [])
    ∷ arm_bytes
    ∷ (4 ∷ 0 ∷ 0 ∷ 0 ∷ 0 ∷ 0 ∷ 0 ∷ 6 ∷ 164 ∷ 0 ∷ 0 ∷ 0 ∷ 0 ∷ 0 ∷ 0 ∷ 0 ∷ 0 ∷ 0 ∷ 0 ∷ 0 ∷ 0 ∷ 0 ∷ 0 ∷ 0 ∷ 0 ∷ [])
    ∷ (4 ∷ 0 ∷ 0 ∷ 0 ∷ 0 ∷ 0 ∷ 0 ∷ 6 ∷ 165 ∷ 0 ∷ 0 ∷ 0 ∷ 0 ∷ 0 ∷ 0 ∷ 0 ∷ 0 ∷ 0 ∷ 0 ∷ 0 ∷ 0 ∷ 0 ∷ 0 ∷ 0 ∷ 0 ∷ [])
    ∷ [])

abbrev pub without_bytes : CallAnswer → Answered
without_bytes a = record { answer = a; value = zero_value }

abbrev pub with_arm : CallAnswer → Answered
with_arm a = record { answer = a; value = arm_value }

pub record Examples : Type 0 where
  pub five : calls_in five_bytes ≡ five_calls
  -- any other value is a look
  pub five_is_look : calls_in (5 ∷ replicate 24 0) ∷ calls_in (255 ∷ replicate 24 0) ∷ [] ≡ (look 0 0 ∷ []) ∷ (look 0 0 ∷ []) ∷ []
  -- link ups with the numbers 0, 1, 257 and 1 + 2^56: 1 is the old layout
  pub layouts : calls_in
      (join
      ((1 ∷ (replicate 7 0 ++ (4 ∷ (replicate 7 0 ++ (0 ∷ replicate 8 0)))))
      ∷ (1 ∷ (replicate 7 0 ++ (5 ∷ (replicate 7 0 ++ (1 ∷ replicate 8 0)))))
      ∷ (1 ∷ (replicate 7 0 ++ (6 ∷ (replicate 6 0 ++ (1 ∷ 1 ∷ replicate 8 0)))))
      ∷ (1 ∷ (replicate 7 0 ++ (7 ∷ 1 ∷ (replicate 6 0 ++ (1 ∷ replicate 8 0)))))
      ∷ []))
      ≡ link_up New 4 ∷ link_up Old 5 ∷ link_up New 6 ∷ link_up New 7 ∷ []
  -- scripts that end early: no call; in a clock of which one byte and two bytes are there; in a part; after a call
  pub no_calls : calls_in [] ≡ []
  pub early_clock : calls_in (2 ∷ 7 ∷ []) ∷ calls_in (1 ∷ 7 ∷ 8 ∷ []) ∷ [] ≡ (link_down 7 ∷ []) ∷ (link_up New 0x0708 ∷ []) ∷ []
  pub early_part : calls_in (3 ∷ (replicate 16 0 ++ (0 ∷ 0 ∷ 0 ∷ 9 ∷ 0 ∷ 0 ∷ 0 ∷ 0 ∷ 7 ∷ 8 ∷ []))) ≡ message 0 (7 ∷ 8 ∷ []) ∷ []
  -- parts of 258 and 257 bytes
  pub long_parts : calls_in (0 ∷ (replicate 16 0 ++ (0 ∷ 0 ∷ 1 ∷ 2 ∷ 0 ∷ 0 ∷ 1 ∷ 1 ∷ (replicate 258 7 ++ replicate 257 8))))
      ≡ add (replicate 258 7) (replicate 257 8) 0 ∷ []
  pub early_call : calls_in (1 ∷ (replicate 24 0 ++ (0 ∷ []))) ≡ link_up New 0 ∷ add [] [] 0 ∷ []
  -- what the answers say, of every number and value
  pub sayings : (n : ℕ) (v : List ℕ) → map (λ a. saying a v) (Accepted ∷ Added n ∷ Empty ∷ Green n ∷ Grey n ∷ Refused n ∷ NoCall ∷ [])
      ≡ some accepted
      ∷ some (added n)
      ∷ some empty
      ∷ some (shown green n v)
      ∷ some (shown grey n v)
      ∷ some (refused n)
      ∷ none
      ∷ []
  -- what the code's answers stand for, each case; with a value, and where the script has no call
  pub cases : map answer_of (said.Accepted ∷ said.Added 3 ∷ said.Empty ∷ said.Green 5 ∷ said.Grey 6 ∷ said.Refused 15 ∷ [])
      ≡ Accepted ∷ Added 3 ∷ Empty ∷ Green 5 ∷ Grey 6 ∷ Refused 15 ∷ []
  pub with_value : (a : code.CallAnswer) (v : Value) → answered_in (Some (record { answer = a; value = v })) ≡ record { answer = answer_of a; value = v }
  pub without_call : answered_in None ≡ without_bytes NoCall
  -- P10's calls, run, and looks after them
  pub arm_added : answer_at arm_script 0 ≡ without_bytes (Added 0)
  pub arm-linked : answer_at arm_script 1 ≡ without_bytes Accepted
  pub arm_counted : answer_at arm_script 2 ≡ without_bytes Accepted
  pub arm_green : answer_at arm_script 3 ≡ with_arm (Green 500)
  pub arm_grey : answer_at arm_script 4 ≡ with_arm (Grey 501)
  pub arm_no_call : answer_at arm_script 5 ≡ without_bytes NoCall
  pub arm_after : look_after arm_script 0 1700 ≡ with_arm (Green 500)
  pub arm_early : look_after arm_script 0 1199 ≡ without_bytes (Refused 15)
  pub arm_not_there : look_after arm_script 1 1199 ≡ without_bytes (Refused 19)
