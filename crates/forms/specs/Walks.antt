-- The walk along a state's records, step by step.
use Rattle.std.specs.Prelude.{◌≡◌, ℕ, zero, suc, ◌+◌, ◌-◌, ◌<◌, ◌≤◌, true, false, cond, List, Ok, ◌==◌, refl}
use Rattle.std.proofs.Common.{sym, ap, ◌∙◌, inl, inr, arith}
use Rattle.std.proofs.lemmas.Bool.{cases_Bool, cond_both, cond-true, cond-false, and_from, and_parts, ltb-true, leb-true, lt-ltb, le-leb}
use Rattle.std.proofs.lemmas.Bool.Decides.{nat_tests}
use Rattle.machine.specs.declared.Cell.{Cell}
use Rattle.machine.specs.declared.faults.Cause.TheVariants as cause
use Rattle.machine.specs.declared.outputs.Command.{Command}
use Rattle.forms.specs.Bytes.{number, states, count}
use Rattle.forms.specs.declared.chains.Record.{Record}
use Rattle.forms.specs.Entries.{fault}
use Rattle.forms.specs.Bounds.{test_passed}
use Rattle.forms.specs.Chains.{Trail, Read, Ended, Broken, Rising, WalksRise, follows, ending, trail, walk, record_at, covers, record_cell, given, chain_entry}

-- an ending has no more records
end_rising : (m p r : ℕ) → Rising m p (ending r)
end_rising m p r = cond_both (r == 0) Ended Broken (Rising m p) (λ _. tt) (λ _. tt)

module _ (bs : List ℕ) where
  -- a link that is followed, and one that is not
  pub followed : (more p r : ℕ) → p < r → r ≤ count bs → trail (suc more) bs p r ≡ Read r (trail more bs r (record_at bs r).link)
  followed more p r l h = cond-true _ _ _ (and_from _ _ (lt-ltb p r l) (le-leb r (count bs) h))

  pub stopped : (more p r : ℕ) → follows p r (count bs) ≡ false → trail more bs p r ≡ ending r
  stopped zero p r h = refl
  stopped (suc more) p r h = cond-false _ _ _ h

  -- the bound on the records still to be read does not matter, if it is large enough
  enough : (f g p r : ℕ) → count bs ≤ p + f → count bs ≤ p + g → trail f bs p r ≡ trail g bs p r
  enough zero g p r h l = sym (stopped g p r (grind (arith, nat_tests)))
  enough (suc f) zero p r h l = stopped (suc f) p r (grind (arith, nat_tests))
  enough (suc f) (suc g) p r h l =
      elim (cases_Bool (follows p r (count bs))) [
        | inl t ↦ let b = ltb-true p r (and_parts _ _ t).0 in
            let e = enough f g r (record_at bs r).link (omega arith) (omega arith) in
            cond-true _ _ _ t ∙ (ap (Read r) e ∙ sym (cond-true _ _ _ t))
        | inr t ↦ stopped (suc f) p r t ∙ sym (stopped (suc g) p r t)
      ]

  -- one step, with as many records left as there are above the one that was read
  step : (p r : ℕ) → p < r → r ≤ count bs → trail (count bs - p) bs p r ≡ Read r (trail (count bs - r) bs r (record_at bs r).link)
  step p r l h =
      let e : count bs - p ≡ suc (count bs - p - 1) = omega arith in
      let f = enough (count bs - p - 1) (count bs - r) r (record_at bs r).link (omega arith) (omega arith) in
      ap (λ more. trail more bs p r) e ∙ (followed (count bs - p - 1) p r l h ∙ ap (Read r) f)

  -- what the walk gives at a record x that serves the input, and at one that does not
  pub at_covering : (s i p r : ℕ) (x : Record) → x ≡ record_at bs r → p < r → r ≤ count bs → covers x i ≡ true
      → given bs s i p (trail (count bs - p) bs p r) ≡ record_cell (states bs) s i r x
  at_covering s i p r x e l h v =
      let t : covers (record_at bs r) i ≡ true = rw e at v in
      ap (given bs s i p) (step p r l h) ∙ (cond-true (covers (record_at bs r) i) _ _ t ∙ ap (record_cell (states bs) s i r) (sym e))

  pub at_passed : (s i p r : ℕ) (x : Record) → x ≡ record_at bs r → p < r → r ≤ count bs → covers x i ≡ false
      → given bs s i p (trail (count bs - p) bs p r) ≡ given bs s i r (trail (count bs - r) bs r x.link)
  at_passed s i p r x e l h v =
      let t : covers (record_at bs r) i ≡ false = rw e at v in
      ap (given bs s i p) (step p r l h)
      ∙ (cond-false (covers (record_at bs r) i) _ _ t ∙ ap (λ (y : Record). given bs s i r (trail (count bs - r) bs r y.link)) (sym e))

  -- and where it ends
  pub at_end : (s i p r : ℕ) → follows p r (count bs) ≡ false
      → given bs s i p (trail (count bs - p) bs p r) ≡ fault (cond (r == 0) cause.Blank cause.Link) s i p
  at_end s i p r h =
      ap (given bs s i p) (stopped (count bs - p) p r h)
      ∙ elim (cases_Bool (r == 0)) [
        | inl t ↦ ap (given bs s i p) (cond-true (r == 0) _ _ t) ∙ ap (λ c. fault c s i p) (sym (cond-true (r == 0) _ _ t))
        | inr t ↦ ap (given bs s i p) (cond-false (r == 0) _ _ t) ∙ ap (λ c. fault c s i p) (sym (cond-false (r == 0) _ _ t))
      ]

  -- a walk gives only cells that lead to states
  given_closed : (s i p : ℕ) (t : Trail) (c : Cell Command) → given bs s i p t ≡ Ok c → c.next < states bs
  given_closed s i p (Read r rest) c h =
      let so : given bs s i r rest ≡ Ok c → c.next < states bs = λ e. given_closed s i r rest c e in
      let here : record_cell (states bs) s i r (record_at bs r) ≡ Ok c → c.next < states bs = λ e. grind (arith, nat_tests) in
      elim (cases_Bool (covers (record_at bs r) i))
      [ inl t ↦ here (sym (cond-true _ _ _ t) ∙ h) | inr t ↦ so (sym (cond-false _ _ _ t) ∙ h) ]
  given_closed s i p Ended c h = let z : ◌≡◌ {A = ℕ} 0 1 = cc in omega arith
  given_closed s i p Broken c h = let z : ◌≡◌ {A = ℕ} 0 1 = cc in omega arith

  pub chain_closed : (s i : ℕ) (c : Cell Command) → chain_entry bs s i ≡ Ok c → c.next < states bs
  chain_closed s i c h = given_closed s i 0 (walk bs s) c (test_passed _ _ c h)

  -- a walk rises
  pub trail_rising : (more p r : ℕ) → Rising (count bs) p (trail more bs p r)
  trail_rising zero p r = end_rising (count bs) p r
  trail_rising (suc more) p r =
      cond_both (follows p r (count bs)) _ _ (Rising (count bs) p)
      (λ t. let b = and_parts _ _ t in
      (ltb-true p r b.0, leb-true r (count bs) b.1, trail_rising more r (record_at bs r).link))
      (λ t. end_rising (count bs) p r)

pub walks_rise : WalksRise
walks_rise bs s = trail_rising bs (count bs) 0 (number bs (4 + s))
