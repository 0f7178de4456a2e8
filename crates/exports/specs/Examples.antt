-- Answers byte by byte, with all numbers different: they fix the order of the numbers and the code of each answer.
use Rattle.std.specs.Prelude.{ℕ, ◌≡◌, true, false, List, [], ◌∷◌, ◌++◌, map, length, replicate}
use Rattle.fields.specs.Answer.{written_number, written_count}
use Rattle.fields.specs.Layout.{join}
use Rattle.bind_cursor.specs.declared.Cursor.{Cursor}
use Rattle.message.specs.declared.Layout.{Layout}
use Rattle.message.specs.declared.Answer.{Answer}
use Rattle.message.specs.Message.{Parts}
use Rattle.message.specs.MessageReader.{refused}
use Rattle.message.specs.MessageWriter.{message_written, message_out}
use Rattle.feed.specs.Feed.{Nothing, Read}
use Rattle.feed.specs.Feed as pushing
use Rattle.feed.specs.Push.{open_of}
use Rattle.replay.specs.Records.{CallAnswer, Accepted, Added, Empty, Green, Grey, Refused, NoCall}
use Rattle.exports.specs.Exports.{mark_number, answer_bytes, message_given, WrittenAs, push_code, push_read, pushed_bytes, fed_total, fed_buffer, fed_bytes, answer_code, carried_number, answered_bytes, cursor_bytes, cursor_at}

-- eight bytes, of which the last is this
abbrev pub byte : ℕ → List ℕ
byte b = 0 ∷ 0 ∷ 0 ∷ 0 ∷ 0 ∷ 0 ∷ 0 ∷ b ∷ []

abbrev pub fourteen : Answer
fourteen =
    record {
      number = 1;
      step = 2;
      version = 3;
      type_len = 4;
      name_len = 5;
      time_stamp = 0x0102030405060708;
      id = 7;
      further_at = 8;
      further_len = 9;
      content_at = 10;
      content_len = 11;
      metadata_at = 12;
      metadata_len = 13;
      clean = true;
    }

-- a cursor whose numbers have eight bytes each
abbrev pub wide : Cursor
wide =
    record {
      number = 1;
      left = 0x0202020202020202;
      type_at = 0x0303030303030303;
      type_len = 0x0404040404040404;
      name_at = 0x0505050505050505;
      name_len = 0x0606060606060606;
      at = 0x0707070707070707;
      len = 0x0808080808080808;
      clean = true;
    }

abbrev pub nine : Cursor
nine =
    record {
      number = 0xFF;
      left = 2;
      type_at = 3;
      type_len = 4;
      name_at = 5;
      name_len = 6;
      at = 0x0102030405060708;
      len = 8;
      clean = true;
    }

abbrev pub seven_answers : List CallAnswer
seven_answers = Accepted ∷ Added 7 ∷ Empty ∷ Green 8 ∷ Grey 9 ∷ Refused 10 ∷ NoCall ∷ []

abbrev pub zero_stream : List ℕ
zero_stream = replicate 58 0 ++ replicate 8 7

abbrev pub two_lengths : List ℕ
two_lengths = 0 ∷ 0 ∷ 0 ∷ 57 ∷ 0 ∷ 0 ∷ 0 ∷ 9 ∷ []

pub record Examples : Type 0 where
  -- number, step, V, the lengths of the texts, time stamp, MSG_ID; place and length of the further bytes, of the content, of the metadata; the mark
  pub answer-bytes : answer_bytes fourteen
      ≡ join
      (byte 1
      ∷ byte 2
      ∷ byte 3
      ∷ byte 4
      ∷ byte 5
      ∷ (1 ∷ 2 ∷ 3 ∷ 4 ∷ 5 ∷ 6 ∷ 7 ∷ 8 ∷ [])
      ∷ byte 7
      ∷ byte 8
      ∷ byte 9
      ∷ byte 10
      ∷ byte 11
      ∷ byte 12
      ∷ byte 13
      ∷ byte 1
      ∷ [])
  pub mark_numbers : map mark_number (true ∷ false ∷ []) ≡ 1 ∷ 0 ∷ []
  -- then which answer, how many bytes were taken, how many are kept
  pub push_codes : map push_code (Nothing ∷ Read fourteen ∷ pushing.Refused 21 ∷ []) ≡ 0 ∷ 1 ∷ 2 ∷ []
  pub push-read : map push_read (Nothing ∷ Read fourteen ∷ pushing.Refused 21 ∷ []) ≡ refused 0 0 ∷ fourteen ∷ refused 21 0 ∷ []
  pub pushed-bytes : pushed_bytes (Read fourteen) 20 300 ≡ answer_bytes fourteen ++ (byte 1 ++ (byte 20 ++ (0 ∷ 0 ∷ 0 ∷ 0 ∷ 0 ∷ 0 ∷ 1 ∷ 44 ∷ [])))
  -- a buffer of 58 bytes; the stream is a message of zeros, of version 0 and without a body, and eight bytes more. No push, and two that do not
  -- end the message; then one that is offered 57 bytes and one that is offered nine
  pub fed_none : (l : Layout) → fed_bytes (open_of l 58) [] zero_stream (replicate 58 9) ≡ pushed_bytes Nothing 0 0
  pub fed_part : (l : Layout) → fed_bytes (open_of l 58) (0 ∷ 0 ∷ 0 ∷ 20 ∷ 0 ∷ 0 ∷ 0 ∷ 30 ∷ []) zero_stream (replicate 58 9) ≡ pushed_bytes Nothing 30 50
  pub fed : (l : Layout) → fed_bytes (open_of l 58) two_lengths zero_stream (replicate 58 9) ≡ pushed_bytes (Read (refused 4 58)) 1 0
  pub fed-total : (l : Layout) → fed_total (open_of l 58) two_lengths zero_stream (replicate 58 9) ≡ 58
  pub fed-buffer : (l : Layout) → fed_buffer (open_of l 58) two_lengths zero_stream (replicate 58 9) ≡ replicate 58 0
  -- 257 bytes are offered, so that all is taken that the feed takes; three bytes are no length
  pub fed_more : (l : Layout) → fed_total (open_of l 58) (0 ∷ 0 ∷ 1 ∷ 1 ∷ 0 ∷ 0 ∷ 0 ∷ []) zero_stream (replicate 58 9) ≡ 58
  -- a buffer of 57 bytes: the opening is refused
  pub fed_refused : (l : Layout) → fed_bytes (open_of l 57) two_lengths zero_stream (replicate 57 9) ≡ pushed_bytes (pushing.Refused 20) 0 0
  pub fed_nothing : (l : Layout) → fed_total (open_of l 57) two_lengths zero_stream (replicate 57 9) ≡ 0
  pub fed_unwritten : (l : Layout) → fed_buffer (open_of l 57) two_lengths zero_stream (replicate 57 9) ≡ replicate 57 9
  pub codes : map answer_code seven_answers ≡ 0 ∷ 1 ∷ 2 ∷ 3 ∷ 4 ∷ 5 ∷ 6 ∷ []
  pub carried : map carried_number seven_answers ≡ 0 ∷ 7 ∷ 0 ∷ 8 ∷ 9 ∷ 10 ∷ 0 ∷ []
  -- green with the age 500 and a value of two bytes
  pub answered-bytes : answered_bytes (record { answer = Green 500; value = record { bytes = 6 ∷ 7 ∷ replicate 46 0; len = 2 } })
      ≡ join (byte 3 ∷ (0 ∷ 0 ∷ 0 ∷ 0 ∷ 0 ∷ 0 ∷ 1 ∷ 244 ∷ []) ∷ byte 2 ∷ (6 ∷ 7 ∷ replicate 46 0) ∷ [])
  -- what the writer is given: V, time stamp, MSG_ID, type, device name, further bytes, content, metadata
  pub message-given : message_given 1 2 3 (4 ∷ []) (5 ∷ []) (6 ∷ []) (7 ∷ []) (8 ∷ [])
      ≡ record {
        version = 1;
        type_text = 4 ∷ [];
        type_rest = replicate 11 0;
        device_name = 5 ∷ [];
        name_rest = replicate 19 0;
        time_stamp = 2;
        sections = record { id = 3; further = 6 ∷ []; content = 7 ∷ []; metadata = 8 ∷ [] };
      }
  -- what is promised of the writer is its count, its number and its buffer
  pub promised : (l : Layout) (p : Parts) (out left : List ℕ) (r n : ℕ) → WrittenAs l p out r n left
      → (r ≡ written_count (message_written l p (length out))) × (n ≡ written_number (message_written l p (length out))) × (left ≡ message_out l p out)
  -- number, how many children are left, place and length of the type, of the name, of the data; the mark
  pub cursor-bytes : cursor_bytes nine
      ≡ join
      (byte 0xFF
      ∷ byte 2
      ∷ byte 3
      ∷ byte 4
      ∷ byte 5
      ∷ byte 6
      ∷ (1 ∷ 2 ∷ 3 ∷ 4 ∷ 5 ∷ 6 ∷ 7 ∷ 8 ∷ [])
      ∷ byte 8
      ∷ byte 1
      ∷ [])
  -- all eight bytes of each number count, but of the number and the mark the last alone
  pub cursor_at_wide : cursor_at (join (map (replicate 8) (1 ∷ 2 ∷ 3 ∷ 4 ∷ 5 ∷ 6 ∷ 7 ∷ 8 ∷ 9 ∷ []))) ≡ wide
  pub cursor_bytes_wide : cursor_bytes wide ≡ byte 1 ++ (join (map (replicate 8) (2 ∷ 3 ∷ 4 ∷ 5 ∷ 6 ∷ 7 ∷ 8 ∷ [])) ++ byte 1)
  pub cursor_unmarked : (cursor_at (replicate 71 7 ++ (0 ∷ []))).clean ≡ false
  -- the same cursor from its bytes; of too few bytes, what is there
  pub cursor-at : cursor_at (cursor_bytes nine) ≡ nine
  pub cursor_of_few : cursor_at (replicate 9 7)
      ≡ record { number = 7; left = 7; type_at = 0; type_len = 0; name_at = 0; name_len = 0; at = 0; len = 0; clean = false }
