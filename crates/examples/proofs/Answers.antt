-- The answers, by computation.
use mathlib.Core.Path.{refl}
use Rattle.examples.specs.Answers.{Answers}

pub answers : Answers
answers =
    record {
      written = refl;
      checked = refl;
      field = refl;
      transform = λ _. refl;
      no_transform_read = refl;
      position = refl;
      no_position = refl;
      image = λ _. refl;
      no_image = refl;
      value = refl;
      count = refl;
      place = refl;
      source = refl;
      either = refl;
      given_as = λ _. refl;
      kept = λ _ _ _. refl;
      passing = λ _ _ _ _. refl;
      stopped = λ _ _. refl;
      opened = λ _. refl;
      not_opened = refl;
      pushed = λ _ _. refl;
      waits = λ _. refl;
      not_pushed = λ _. refl;
      tile = λ _ _ _ _ _. refl;
      new_tile = λ _ _. refl;
      no_tile = refl;
      panel = λ _. refl;
      added = λ _. refl;
      not_added = λ _. refl;
      called = λ _. refl;
      not_called = λ _. refl;
      looked = λ _ _. refl;
    }
