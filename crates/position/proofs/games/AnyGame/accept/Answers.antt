use Rattle.position.proofs.GameLemmas.{of_this}
use Rattle.position.proofs.games.AnyGame.accept.Goals as goal

pub returns : goal.returns
returns g c = of_this (λ S m. g.V.GameVisitor.says c.args.visitor S m c.hand_to.result) c.args.self c.hand_to.ensures
