use Rattle.std.proofs.Common.{refl}
use Rattle.sheet.specs.declared.answers.Refusal.TheVariants as refusal
use Rattle.examples.proofs.the_marked_examples_hold.Goals as goal

pub returns : goal.returns
returns c = record {
  opens = refl;
  states = refl;
  inputs = refl;
  start = refl;
  cells_read = refl;
  map_opened = refl;
  map_once = refl;
  map_twice = refl;
  map_thrice = refl;
  round_4 = refl;
  round_5 = (refusal.AlreadySettled, refl, refl);
  length_0_1 = refl;
  word_0_1 = refl;
  length_2_5 = refl;
  word_2_5 = refl;
  word_0_3 = (refusal.NotApart, refl, refl);
  word_4_4 = (refusal.NotApart, refl, refl);
  offsets_up = refl;
  offsets_down = refl;
  move_key = refl;
  ring_opens = refl;
  ring_forward = refl;
  ring_back = refl;
  ring_stay = refl;
  train_first = refl;
  train_last = refl;
}
