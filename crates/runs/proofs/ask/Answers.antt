use Rattle.std.proofs.Common.{refl}
use Rattle.sheet.specs.Standing.{stage_of}
use Rattle.runs.specs.Entries.{buffers}
use Rattle.runs.proofs.Answered.{right_round, right_pair, right_map, right_word, right_table}
use Rattle.runs.proofs.ask.Goals as goal

pub returns-in-Round : goal.returns-in-Round
returns-in-Round g c = record {
  same = c.round.ensures.same;
  stage = c.round.ensures.stage;
  right = right_round g.M.Out.Output.key (g.M.Machine.means c.args.sheet.now.machine).entry (stage_of c.args.sheet.now) c.args.call c.in-Round.is (buffers c.args.numbers.now c.args.next.now c.args.outputs.now) c.round.result c.round.ensures.answer c.round.ensures.means;
}

pub returns-in-Pair : goal.returns-in-Pair
returns-in-Pair g c = record {
  same = refl;
  stage = refl;
  right = right_pair g.M.Out.Output.key (g.M.Machine.means c.args.sheet.now.machine).entry (stage_of c.args.sheet.now) c.args.call c.in-Pair.s c.in-Pair.t c.in-Pair.is (buffers c.args.numbers.now c.args.next.now c.args.outputs.now) c.pair.result c.pair.ensures.answer c.pair.ensures.means;
}

pub returns-in-Map : goal.returns-in-Map
returns-in-Map g c = record {
  same = refl;
  stage = refl;
  right = right_map g.M.Out.Output.key (g.M.Machine.means c.args.sheet.now.machine).entry (stage_of c.args.sheet.now) c.args.call c.in-Map.is c.args.numbers.now c.map.new.out c.args.next.now c.args.outputs.now c.map.result c.map.ensures.answer c.map.ensures.buffer c.map.ensures.means;
}

pub returns-in-Word : goal.returns-in-Word
returns-in-Word g c = record {
  same = refl;
  stage = refl;
  right = right_word g.M.Out.Output.key (g.M.Machine.means c.args.sheet.now.machine).entry (stage_of c.args.sheet.now) c.args.call c.in-Word.s c.in-Word.t c.in-Word.is c.args.numbers.now c.word.new.out c.args.next.now c.args.outputs.now c.word.result c.word.ensures.answer c.word.ensures.buffer c.word.ensures.means;
}

pub returns-in-Table : goal.returns-in-Table
returns-in-Table g c = record {
  same = refl;
  stage = refl;
  right = right_table g.M.Out.Output.key (g.M.Machine.means c.args.sheet.now.machine).entry (stage_of c.args.sheet.now) c.args.call c.in-Table.is c.args.numbers.now c.args.next.now c.table.new.next c.args.outputs.now c.table.new.outputs c.table.result c.table.ensures.answer c.table.ensures.next c.table.ensures.outputs c.table.ensures.means;
}
