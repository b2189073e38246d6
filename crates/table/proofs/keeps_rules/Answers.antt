use Rattle.table.specs.Setting.{lists_of}
use Rattle.table.proofs.RankLemmas.{table_keeps_rules}
use Rattle.table.proofs.keeps_rules.Goals as goal

pub returns : goal.returns
returns c = table_keeps_rules (lists_of c.args._game.now.setting) c.args._game.now.valid
