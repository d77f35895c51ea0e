use Rattle.writing.proofs.Puts.{puts_more}
use Rattle.writing.proofs.bytes.put_all.Goals as goal

pub loop-i-preserved : goal.loop-i-preserved
loop-i-preserved c =
    let e = puts_more c.args.out.now c.args.place c.loop-i.i c.args.numbers.now c.loop-i-test.true in
    cc
