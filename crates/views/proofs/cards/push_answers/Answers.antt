use Rattle.std.proofs.Common.{◌≡◌, ℕ, ◌+◌, List, ◌++◌, length, drop, string_bytes, sym, ap, ◌∙◌, arith, rules}
use Rattle.listings.specs.Lists.{Lists, lists_in}
use Rattle.texts.specs.Numbers.{numbers_text}
use Rattle.views.specs.Cards.{shows}
use Rattle.views.proofs.Running.{shows_step, ends_step, shows_done, ends_done}
use Rattle.views.proofs.cards.push_answers.Goals as goal

pub loop-input-preserved : goal.loop-input-preserved
loop-input-preserved c =
    let lists : Lists = lists_in c.args.reduction.now in
    let w : List ℕ = c.args.word.now in
    let i : ℕ = c.loop-input.input-index in
    let at : ℕ = c.loop-input.at in
    let cell = c.cell_at-next.result in (
      ap (λ (t : List ℕ). t ++ numbers_text (shows lists cell.next (drop (i + 1) w))) c.in_ok-write.ensures.bytes
          ∙ shows_step lists at w i (string_bytes c.loop-input.text) cell.output.number cell.next c.loop-input-test.true c.cell_at-next.ensures.output c.cell_at-next.ensures.next
          ∙ c.loop-input.invariant.0,
      ends_step lists at w i cell.next c.loop-input-test.true c.cell_at-next.ensures.next ∙ c.loop-input.invariant.1,
      search rules,
    )

pub returns : goal.returns
returns c =
    let lists : Lists = lists_in c.args.reduction.now in
    let w : List ℕ = c.args.word.now in
    let i : ℕ = c.loop-input.input-index in
    let all : i ≡ length w = omega arith in
    record {
      added = sym (shows_done lists c.loop-input.at w i (string_bytes c.loop-input.text) all) ∙ c.loop-input.invariant.0;
      ended = sym (ends_done lists c.loop-input.at w i all) ∙ c.loop-input.invariant.1;
    }
