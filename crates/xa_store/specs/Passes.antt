-- What a contract sees of a store's passes, in the words of its log. Only this file changes with another log,
-- and no clause does.
--     Pass            a pass of the log
--     identity_of     which log it is
--     log_of          of which log a pass is
--     known_of        what a pass knows
pub use Rattle.chain_log.specs.declared.pass.ChainPass.{ChainPass as Pass}
pub use Rattle.chain_log.specs.ChainPass.{identity_of, log_of, known_of}
