use Rattle.xa_statement.proofs.Canon.{start_spelled, end_spelled, prepare_spelled, commit_spelled, rollback_spelled}
use Rattle.xa_statement.proofs.Canon.{recover_spelled, get_spelled, put_spelled, del_spelled, disconnect_spelled}
use Rattle.xa_statement.proofs.laws.canonical_text_is_spelled.Goals as goal

pub returns-in-Start : goal.returns-in-Start
returns-in-Start c = rw c.in-Start.is (start_spelled c.in-Start.xid c.is_writable.ensures)

pub returns-in-End : goal.returns-in-End
returns-in-End c = rw c.in-End.is (end_spelled c.in-End.xid c.is_writable-in-End.ensures)

pub returns-in-Prepare : goal.returns-in-Prepare
returns-in-Prepare c = rw c.in-Prepare.is (prepare_spelled c.in-Prepare.xid c.is_writable-in-Prepare.ensures)

pub returns-in-Commit : goal.returns-in-Commit
returns-in-Commit c =
    rw c.in-Commit.is (commit_spelled c.in-Commit.xid c.in-Commit.one_phase c.is_writable-in-Commit.ensures)

pub returns-in-Rollback : goal.returns-in-Rollback
returns-in-Rollback c = rw c.in-Rollback.is (rollback_spelled c.in-Rollback.xid c.is_writable-in-Rollback.ensures)

pub returns-in-Recover : goal.returns-in-Recover
returns-in-Recover c = rw c.in-Recover.is (recover_spelled c.in-Recover.convert)

pub returns-in-Get : goal.returns-in-Get
returns-in-Get c = rw c.in-Get.is (get_spelled c.in-Get.key c.is_key.ensures)

pub returns-in-Put : goal.returns-in-Put
returns-in-Put c =
    rw c.in-Put.is
    (put_spelled c.in-Put.key c.in-Put.value c.is_key-in-Put.ensures
    (rw c.as_slice.ensures.value at c.are_bytes.ensures) (rw c.as_slice.ensures.value at c.as_slice.ensures.fits))

pub returns-in-Del : goal.returns-in-Del
returns-in-Del c = rw c.in-Del.is (del_spelled c.in-Del.key c.is_key-in-Del.ensures)

pub returns-in-Disconnect : goal.returns-in-Disconnect
returns-in-Disconnect c = rw c.in-Disconnect.is disconnect_spelled
