use Rattle.std.proofs.Common.{◌∙◌}
use Rattle.slice_core_spec.proofs.RoomLaws.{directory_room-after_request}
use Rattle.slice_core_spec.specs.Sends.{directory_sent}
use Rattle.slice_core_exec.proofs.parts.deliver.serve_request.Goals as goal
use Rattle.slice_queues.proofs.LentLaws.{lent_again, read-lent}
use Rattle.slice_queues.specs.Slice.{at_local}

pub send_from_directory-requires-clause-room : goal.send_from_directory-requires-clause-room
send_from_directory-requires-clause-room c =
    rw (read-lent c.args.queues.now c.drop_at.new.self c.args.local _ c.requires.line c.drop_at.ensures)
    (directory_room-after_request
    (at_local c.args.queues.now.channels c.args.local.0) c.args.core c.args.step.now.sends c.requires.room)

pub send_from_directory-requires-2-clause-room : goal.send_from_directory-requires-2-clause-room
send_from_directory-requires-2-clause-room c =
    rw (read-lent c.args.queues.now c.drop_at-2.new.self c.args.local _ c.requires.line c.drop_at-2.ensures)
    (directory_room-after_request
    (at_local c.args.queues.now.channels c.args.local.0) c.args.core c.args.step.now.sends c.requires.room)

pub returns-then-not-step-clause-line : goal.returns-then-not-step-clause-line
returns-then-not-step-clause-line c =
    c.send_from_directory.ensures
    ∙ lent_again c.args.queues.now c.drop_at.new.self c.args.local _
    (λ line. directory_sent line c.args.core c.args.home.now c.args.step.now.sends) c.requires.line c.drop_at.ensures

pub returns-clause-line : goal.returns-clause-line
returns-clause-line c =
    c.send_from_directory-2.ensures
    ∙ lent_again c.args.queues.now c.drop_at-2.new.self c.args.local _
    (λ line. directory_sent line c.args.core c.args.home.now c.args.step.now.sends) c.requires.line c.drop_at-2.ensures
