use Rattle.std.proofs.Common.{◌≡◌, false, cond, eqb, sym, ap, ◌∙◌, arith}
use Rattle.std.proofs.lemmas.Bool.Decides.{nat_tests}
use Rattle.machine.specs.declared.faults.Cause.{Cause}
use Rattle.machine.specs.declared.faults.Cause.TheVariants as cause
use Rattle.forms.specs.Bytes.{states, count}
use Rattle.forms.specs.Chains.{follows, record_cell}
use Rattle.forms.specs.Entries.{fault}
use Rattle.forms.specs.Walks.{at_covering, at_passed, at_end}
use Rattle.forms.proofs.Lookups.{followed_lem}
use Rattle.forms.proofs.Chain.walked.Goals as goal
use Rattle.forms.proofs.Chain.walked.Goals.{then-link-eq0, else-link-eq0}

pub loop-record-preserved : goal.loop-record-preserved
loop-record-preserved c =
    let bs = c.args.self.now.bytes.items in
    let f = followed_lem bs c.loop-record.last c.loop-record.link c.in-Some.record c.in-Some.ensures in
    let p = at_passed bs c.args.state c.args.input c.loop-record.last c.loop-record.link c.in-Some.record f.0 f.1 f.2 (sym c.if-covers.ensures) in
    (f.2, sym p ∙ c.loop-record.invariant.1)

pub returns-then-covers : goal.returns-then-covers
returns-then-covers c =
    let bs = c.args.self.now.bytes.items in
    let f = followed_lem bs c.loop-record.last c.loop-record.link c.in-Some.record c.in-Some.ensures in
    let p = at_covering bs c.args.state c.args.input c.loop-record.last c.loop-record.link c.in-Some.record f.0 f.1 f.2 (sym c.if-covers.ensures) in
    let q : c.ok_or.result ≡ record_cell (states bs) c.args.state c.args.input c.loop-record.link c.in-Some.record = grind (arith, nat_tests) in
    q ∙ (sym p ∙ c.loop-record.invariant.1)

pub returns : goal.returns
returns c =
    let bs = c.args.self.now.bytes.items in
    let v : follows c.loop-record.last c.loop-record.link (count bs) ≡ false = grind (arith, nat_tests) in
    let k : c.if-link-eq0.cause ≡ cond (eqb c.loop-record.link 0) cause.Blank cause.Link =
    elim c.if-link-eq0.branch [ then-link-eq0 w ↦ grind (arith, nat_tests) | else-link-eq0 w ↦ grind (arith, nat_tests) ] in
    let p = at_end bs c.args.state c.args.input c.loop-record.last c.loop-record.link v in
    ap (λ (z : Cause). fault z c.args.state c.args.input c.loop-record.last) k ∙ (sym p ∙ c.loop-record.invariant.1)
