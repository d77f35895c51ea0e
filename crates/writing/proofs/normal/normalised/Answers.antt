use Rattle.std.proofs.Common.{vec_items, sym, subst}
use Rattle.std.proofs.lemmas.Result.{IfOk-weaker}
use Rattle.forms.specs.Forms.{chain_of}
use Rattle.writing.specs.Normal.{Normalised}
use Rattle.writing.proofs.normal.normalised.Goals as goal

pub returns : goal.returns
returns c =
    let m = chain_of c.in_ok-open.field-0 in
    let e = c.in_ok-open.ensures in
    let r = c.rewritten.result in
    record {
      answer = subst (λ o. Normalised vec_items o r) e c.rewritten.ensures.answer;
      again = IfOk-weaker r _ _ (λ v h. (m, sym e, h)) c.rewritten.ensures.again;
      runs = c.rewritten.ensures.runs;
    }
