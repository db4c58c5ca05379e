use Rattle.resolver.proofs.Stays.{resolve-stays, verify-stays, check-stays}
use Rattle.resolver.proofs.returning.memory_folders_stay.Goals as goal

pub returns-clause-resolving : goal.returns-clause-resolving
returns-clause-resolving c = λ failed folder request. resolve-stays failed request folder

pub returns-clause-verifying : goal.returns-clause-verifying
returns-clause-verifying c = λ failed folder request. verify-stays failed request folder

pub returns-clause-checking : goal.returns-clause-checking
returns-clause-checking c = λ failed folder request. check-stays failed request folder
