use Rattle.forms.specs.Walks.{walks_rise}
use Rattle.forms.proofs.chains.walks_rise.Goals as goal

pub returns : goal.returns
returns c = walks_rise
