-- How the program keeps what it reads.
use Rattle.xa_orders.specs.{declared.script.Script.Script, Scripts.Reading}

-- what was read of a script, as definitions see it: without the rows that its lines write
abbrev pub read_kept : Script → Reading
read_kept script =
    record {
      stage = script.stage;
      before = script.before.items;
      beside = script.beside.items;
      later = script.later.items;
      faults = script.faults.items;
    }
