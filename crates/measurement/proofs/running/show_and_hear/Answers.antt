use Rattle.std.proofs.Common.{◌≡◌, ◌+◌, ◌≤◌, length, ap, ◌∙◌, inl, inr, arith, w32, SFits, rules}
use Rattle.std.proofs.lemmas.Int.{to_z-of_z}
use Rattle.measurement.specs.Measuring.{lines_before}
use Rattle.measurement.proofs.Waiting.{sits_first, waits, hears, one_more_line}
use Rattle.measurement.proofs.running.show_and_hear.Goals as goal

pub loop-tap-init : goal.loop-tap-init
loop-tap-init c = record { sits = sits_first _ _ _ c.begin-thread.ensures; lines = search rules }

pub hear-requires : goal.hear-requires
hear-requires c = waits _ _ _ _ c.loop-tap.invariant.sits

pub loop-tap-preserved : goal.loop-tap-preserved
loop-tap-preserved c =
    let now = c.loop-tap.invariant in
    record {
      sits = elim (hears _ _ _ _ now.sits _ _ (omega arith) c.in_default.ensures.after c.in_default.ensures.value) [
        | inl next ↦ next.1
        | inr end ↦ absurd (grind (arith, end.0))
      ];
      lines = one_more_line _ _ _ _ now.sits _ _ _ c.show_cell-show_cell.ensures.value c.in_ok-push.ensures.items now.lines;
    }

pub returns-in-Some : goal.returns-in-Some
returns-in-Some c =
    let now = c.loop-tap.invariant in
    let value_fits : SFits w32 c.in-Some.value = search rules in
    let within : c.loop-tap.tap-index + 1 ≤ length c.args.taps.now = omega arith in
    elim (hears _ _ _ _ now.sits _ _ (omega arith) c.in-Some.ensures.after c.in-Some.ensures.value) [
      | inl next ↦ absurd (grind (arith, next.0))
      | inr end ↦ (
        c.loop-tap.tap-index + 1,
        (within, now.sits.less),
        end.1,
        one_more_line _ _ _ _ now.sits _ _ _ c.show_cell-show_cell.ensures.value c.in_ok-push.ensures.items now.lines,
        to_z-of_z w32 _ value_fits ∙ grind (arith, end.0),
      )
    ]

pub returns : goal.returns
returns c =
    let now = c.loop-tap.invariant in
    let taps = c.args.taps.now in
    let all : c.loop-tap.tap-index ≡ length taps = omega arith in
    let whole : length taps ≤ length taps = omega arith in (
      (whole, λ k h. now.sits.less k (omega (arith, all))),
      now.sits.less (length taps) (omega (arith, all)),
      one_more_line _ _ _ _ now.sits _ _ _ c.show_cell-show_cell.ensures.value c.in_ok-push-2.ensures.items now.lines
          ∙ ap (λ n. lines_before c.args.staircase.now.start_line taps (n + 1)) all,
    )
