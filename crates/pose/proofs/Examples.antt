-- The examples, by computation.
use Prim.Native.Nat.{ℕ, suc, ◌<◌}
use mathlib.Core.Path.{refl}
use mathlib.Core.List.{[], ◌∷◌}
use native.Mathlib.Omega.{arith}
use Rattle.fields.specs.Lists.{flat}
use Rattle.fields.specs.Numbers.{be_val, be_bytes}
use Rattle.fields.specs.Answer.{room_fault}
use Rattle.fields.specs.Writers.{written_by, out_by}
use Rattle.pose.specs.Words.{word_bytes}
use Rattle.pose.specs.TransformReader.{transform_fault, transform_of}
use Rattle.pose.specs.TransformTheorems.{ThreeWords}
use Rattle.pose.specs.PositionReader.{count_fault, position_fault, position_of}
use Rattle.pose.specs.Examples.{Examples}

-- a small number and the two after it
from : (n : ℕ) → n < 100 → ThreeWords (n ∷ suc n ∷ suc (suc n) ∷ [])
from n h = record { count = refl; words = (omega arith, (omega arith, (omega arith, tt))) }

pub examples : Examples
unfolding flat be_val be_bytes room_fault written_by out_by word_bytes transform_fault transform_of count_fault position_fault position_of
examples =
    record {
      columns =
          record {
            column1 = from 1 (omega arith);
            column2 = from 4 (omega arith);
            column3 = from 7 (omega arith);
            translation = from 10 (omega arith);
          };
      read = refl;
      wrote = refl;
      written = refl;
      short = refl;
      long = refl;
      all_bits = refl;
      no_room = refl;
      position_12 = refl;
      position_24 = refl;
      position_28 = refl;
      position_13 = refl;
      position-written = refl;
      four_words = refl;
      transform_lengths = refl;
      position_lengths = refl;
      word_counts = refl;
      position_no_room = refl;
      eight_first = refl;
    }
