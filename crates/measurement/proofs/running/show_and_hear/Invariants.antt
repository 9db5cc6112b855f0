use Rattle.std.proofs.Common.{◌≡◌, vec_items}
use Rattle.measurement.specs.Measuring.{lines_before}
use Rattle.measurement.proofs.Waiting.{Sits}
use Rattle.measurement.proofs.running.show_and_hear.Given as goal

abbrev pub invariant-loop-tap : goal.invariant-loop-tap
invariant-loop-tap l =
    record {
      sits : Sits l.staircase l.taps l.tap-index l.thread;
      lines : vec_items l.shown ≡ lines_before l.staircase.start_line l.taps l.tap-index;
    }
