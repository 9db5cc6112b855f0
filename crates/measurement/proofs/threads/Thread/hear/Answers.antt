use Rattle.std.proofs.Common.{ap, ◌∙◌, w32, SFits, rules}
use Rattle.std.proofs.lemmas.Int.{to_z-of_z}
use Rattle.model.specs.declared.threads.Answer.TheVariants.{Got}
use Rattle.measurement.specs.Threads.{stepped}
use Rattle.measurement.proofs.Waiting.{never_faults}
use Rattle.measurement.proofs.threads.Thread.hear.Goals as goal

pub unwrap-requires-2 : goal.unwrap-requires-2
unwrap-requires-2 c =
    let fits : SFits w32 c.into.result = search rules in
    let same = to_z-of_z w32 _ fits ∙ c.into.ensures in
    rw c.step-2.ensures.value (never_faults c.args.staircase.now c.args.self.now _ c.args.tap c.requires
    (c.step.ensures.after ∙ ap (λ v. stepped c.args.staircase.now (Got v) c.args.self.now) same))
