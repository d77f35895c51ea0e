use Rattle.std.proofs.Common.{string_bytes, append_assoc, arith}
use Rattle.std.proofs.lemmas.Result.{on_ok_weaker}
use Rattle.texts.proofs.Pieces.{items_printed}
use Rattle.log_texts.specs.Lines.{number_of}
use Rattle.log_texts.proofs.push_table.Goals as goal

pub returns : goal.returns
returns c =
    let outputs = on_ok_weaker c.push_each.result (items_printed number_of (string_bytes c.write.new.self) _ c.args.outputs.now) c.push_each.ensures in
    grind (arith, append_assoc)
