use Rattle.plan_book.proofs.BestLemmas.{result_lawful}
use Rattle.plan_book.proofs.book.Book.sheet.Goals as goal

pub returns-clause-lawful : goal.returns-clause-lawful
returns-clause-lawful g c =
    let book = c.args.self.now in
    result_lawful (g.G.Game.model c.args.g) (g.met.G.Game.lawful c.args.g) c.args.side book.total book.entries c.best_sheet.result c.requires.closed c.best_sheet.ensures.side
    c.best_sheet.ensures.total c.best_sheet.ensures.best
