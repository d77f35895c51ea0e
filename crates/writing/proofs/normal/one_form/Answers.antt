use Rattle.writing.proofs.OneForms.{one_form}
use Rattle.writing.proofs.normal.one_form.Goals as goal

pub returns : goal.returns
returns c = one_form
