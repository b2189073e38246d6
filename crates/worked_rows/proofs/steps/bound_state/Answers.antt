use Rattle.bounds_board.proofs.ViewLemmas.{later_trans}
use Rattle.worked_rows.proofs.steps.bound_state.Goals as goal

pub returns-in-Ok-serial : goal.returns-in-Ok-serial
returns-in-Ok-serial g c =
    record {
      later = later_trans (g.B.Bounds.view c.args.board.now) (g.B.Bounds.view c.serial.new.board)
          (g.B.Bounds.view c.serial-2.new.board) c.serial.ensures.ends.kept.later c.serial-2.ensures.ends.kept.later;
    }

pub returns-in-Err-serial : goal.returns-in-Err-serial
returns-in-Err-serial g c =
    record {
      later = later_trans (g.B.Bounds.view c.args.board.now) (g.B.Bounds.view c.serial.new.board)
          (g.B.Bounds.view c.serial-2.new.board) c.serial.ensures.ends.kept.later c.serial-2.ensures.ends.kept.later;
    }
