-- Desks and passes may go to other threads.
use denote.Param.Send.{IsSend, sendable, view_send}
use denote.Param.SendFields.{declared_send}
use Rattle.std.proofs.Crossing.{crosses}
use Rattle.sa_desk.specs.contracts.entry.Entry as entry
use Rattle.sa_desk.specs.contracts.desk.Desk as desk
use Rattle.sa_desk.specs.contracts.desk.Desk.TheInside as inside
use Rattle.sa_desk.specs.contracts.request.Request as request
use Rattle.sa_desk.specs.contracts.request.Reply as reply
use Rattle.sa_desk.specs.contracts.request.OpenWait as open_wait
use Rattle.std.specs.contracts.option.Option as option
use Rattle.arrayvec.specs.contracts.array_vec.ArrayVec as array_vec
use denote.Param.{number}
use denote.Builtin.{unit}
use Rattle.sa_board.specs.contracts.pass.Pass as pass
use Rattle.sa_board.specs.contracts.pass.Pass.TheInside as pass_inside
use Rattle.sa_board.specs.contracts.view.View as view
use Rattle.atomic_table.specs.contracts.shared.Seat as seat

module _ (sends : IsSend entry.the_row) (requests : IsSend (array_vec.the_row request.the_row (number 16) unit)) (replies : IsSend (array_vec.the_row reply.the_row (number 16) unit)) (waits : IsSend (array_vec.the_row (option.the_row open_wait.the_row) (number 16) unit)) where
  inside_sends : IsSend inside.the_row
  inside_sends = declared_send inside.the_type (
    search sendable,
    (
      search sendable,
      (
        search sendable,
        (
          search (sendable, crosses) depth 12,
          (
            search (sends, sendable, crosses),
            (
              search (sendable, crosses) depth 12,
              (search sendable, (search sendable, (requests, (replies, (search (sendable, crosses) depth 12, (waits, tt)))))),
            ),
          ),
        ),
      ),
    ),
  )

  pub desk_sends : IsSend desk.the_row
  desk_sends = view_send inside.the_row _ _ _ _ inside_sends

module _ (desk_sends : IsSend (option.the_row desk.the_row)) (seat_sends : IsSend (seat.the_row (option.the_row desk.the_row) view.the_row)) where
  pub pass_sends : IsSend pass.the_row
  pass_sends = view_send pass_inside.the_row _ _ _ _ (declared_send pass_inside.the_type (search sendable, (search sendable, (seat_sends, (search sendable, (desk_sends, (search sendable, (search sendable, tt))))))))
