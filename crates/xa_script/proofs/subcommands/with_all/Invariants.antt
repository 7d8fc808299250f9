use Rattle.std.proofs.Common.{◌≡◌, drop}
use Rattle.clap.specs.Words.{app_of}
use Rattle.xa_script.specs.CommandLine.{with_tasks}
use Rattle.xa_script.proofs.subcommands.with_all.Given as goal

abbrev pub invariant-loop-task : goal.invariant-loop-task
invariant-loop-task l =
    with_tasks (app_of l.more) (drop l.task-index l.tasks) ≡ with_tasks (app_of l.fn.command) l.tasks
