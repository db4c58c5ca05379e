use Rattle.commands.proofs.running.run.Goals as goal

pub returns : goal.returns
returns g c = (c.run_on.result.1, c.run_on.ensures)
