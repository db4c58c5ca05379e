use Rattle.index_lines.proofs.required.dependency.Goals as goal

pub returns-in-Again : goal.returns-in-Again
returns-in-Again c = rw c.in-Again.is c.in-Again.again.says.dependency
