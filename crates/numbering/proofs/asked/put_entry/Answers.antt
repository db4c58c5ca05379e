use Rattle.numbering.proofs.AskedLaws.{asks_nothing}
use Rattle.numbering.proofs.asked.put_entry.Goals as goal

pub returns-in-Feature : goal.returns-in-Feature
returns-in-Feature c = rw c.in-Feature.is (asks_nothing c.args.asked.now)

pub returns-in-Dependency : goal.returns-in-Dependency
returns-in-Dependency c = rw c.in-Dependency.is (asks_nothing c.args.asked.now)

pub returns-in-DependencyFeature : goal.returns-in-DependencyFeature
returns-in-DependencyFeature c = rw c.in-DependencyFeature.is c.put_asked.ensures

pub returns-in-WeakFeature : goal.returns-in-WeakFeature
returns-in-WeakFeature c = rw c.in-WeakFeature.is c.put_asked-in-WeakFeature.ensures
