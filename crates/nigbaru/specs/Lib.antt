pub mod Overlapping
pub mod Shown
pub use Rattle.xa_xid.specs as xid
pub use Rattle.xa_statement.specs as statement
pub use Rattle.xa_server.specs as server
pub use Rattle.xa_words.specs as words
pub use Rattle.decision_log.specs as log
pub use Rattle.chain_log.specs as chain
pub use Rattle.xa_session.specs as session
pub use Rattle.xa_store.specs as store
pub use Rattle.xa_coordinator.specs as coordinator
pub use Rattle.xa_endless.specs as endless
pub use Rattle.xa_lines.specs as lines
pub use Rattle.xa_races.specs as races
pub use Rattle.xa_judge.specs as judge
pub use Rattle.xa_record.specs as records
pub use Rattle.xa_manager.specs as manager
