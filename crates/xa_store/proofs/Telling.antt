-- The fault that is told once one more task is taken back, and what it says of a race's runs.
use Rattle.std.proofs.Common.{◌≡◌, ◌⊎◌, ℕ, zero, suc, Bool, ◌<◌, ◌≤◌, List, [], ◌∷◌, ◌++◌, length, refl, ap, sym, ◌∙◌}
use Rattle.std.proofs.Common.{subst, inl, inr, ⊎_elim, Some, None, Result, Ok, Err, Vec, Global, arith}
use Rattle.std.specs.{Prelude.slice_get, List.AllZip, Result.{IfOk, IfErr}}
use Rattle.xa_server.specs.State.{State}
use Rattle.xa_store.specs.{Passes.{log_of, known_of}, Legal.{IsShutAt, IsFullAt, Stops}, Lowest.{IsOwn, IsOutside}}
use Rattle.xa_store.specs.Lowest.{IsLower, Joins, IsOfLowest, IsOfNone, IsTold, IsRunThrough, AreRunThrough}
use Rattle.xa_store.specs.{Lowest.TellsLowest, declared.first_fault.FirstFault.FirstFault}
use Rattle.xa_store.specs.declared.{race_fault.RaceFault.RaceFault, run.Run.Run}
use Rattle.xa_store.specs.declared.race_fault.RaceFault.TheVariants.{GateShut, Full, NoMemory, ThreadRefused}
use Rattle.xa_store.proofs.Spreading.{zip_get, get_front, get_end}

-- None is never Some
never : {A : Type 0} (x : A) → None ≡ Some x → ⊥
never x is = cc

-- an element of a list that is longer by one is one of the list, or the last
front_or_end : {A : Type 0} (xs : List A) (x : A) (place : ℕ) (other : A) → slice_get (xs ++ x ∷ []) place ≡ Some other
    → (slice_get xs place ≡ Some other) ⊎ (x ≡ other)
front_or_end [] x zero other is = inr cc
front_or_end [] x (suc place) other is = absurd (never other is)
front_or_end (a ∷ xs) x zero other is = inl is
front_or_end (a ∷ xs) x (suc place) other is = front_or_end xs x place other is

-- if two lists are related place by place, then at the place of an element of the first there is one of the second,
-- related to it
pub zip_at : {A B : Type 0} (K : A → B → Type 0) (xs : List A) (ys : List B) (place : ℕ) (x : A) → AllZip K xs ys
    → slice_get xs place ≡ Some x
    → (y : B) × (slice_get ys place ≡ Some y) × K x y
zip_at K [] [] place x zip is = absurd (never x is)
zip_at K [] (b ∷ ys) place x zip is = absurd zip
zip_at K (a ∷ xs) [] place x zip is = absurd zip
zip_at K (a ∷ xs) (b ∷ ys) zero x zip is =
    let same : a ≡ x = cc in
    let P : _ → Type 0 = λ one. K one b in
    (b, refl, subst P same zip.0)
zip_at K (a ∷ xs) (b ∷ ys) (suc place) x zip is = zip_at K xs ys place x zip.1 is

-- a list that has an element isn't empty
some_at : {A : Type 0} (xs : List A) (place : ℕ) (x : A) → slice_get xs place ≡ Some x → 0 < length xs
some_at [] place x is = absurd (never x is)
some_at (a ∷ xs) place x is = omega arith

module _ {Task Gain : Type 0} (number : Task → ℕ) (gains : Task → Gain → Type 0) (stops : Task → RaceFault → Type 0)
    (xs : List Task) (x : Task)
    (all : List Task) (are : xs ++ x ∷ [] ≡ all) where
  -- a task of all is one of `xs`, or the last
  among : (place : ℕ) (other : Task) → slice_get all place ≡ Some other
      → (slice_get xs place ≡ Some other) ⊎ (x ≡ other)
  among place other is = front_or_end xs x place other (subst (λ list. slice_get list place ≡ Some other) (sym are) is)

  -- if the last has done its part, so has a task that is the last
  has_done : (gain : Gain) → gains x gain → (other : Task) → x ≡ other → (gain : Gain) × gains other gain
  has_done gain is other same = (gain, subst (λ task. gains task gain) same is)

  -- if the fault is that of the last task, and the others of lower sessions have done their part, it is that of the
  -- lowest session of all
  of_last : (told : FirstFault) (fault : RaceFault) → IsOwn (number x) fault told
      → (fault ≡ ThreadRefused) ⊎ stops x fault
      → ((place : ℕ) (other : Task) → slice_get xs place ≡ Some other → number other < told.session
      → (gain : Gain) × gains other gain)
      → IsOfLowest number gains stops all told
  of_last told fault own cause lower = record {
    index = length xs;
    task = x;
    found = subst (λ list. slice_get list (length xs) ≡ Some x) are (get_end xs x);
    number_is = own.session;
    cause = subst (λ one. (one ≡ ThreadRefused) ⊎ stops x one) (sym own.same) cause;
    lower =
        λ place other is below.
        ⊎_elim (λ front. lower place other front below)
        (λ same. let e : number x ≡ number other = ap number same in absurd (omega (arith, e, below, own.session)))
        (among place other is);
  }

  -- if the fault is that of the lowest session of the others, and the last task has done its part if its session is
  -- lower, it is that of the lowest session of all
  of_others : (told : FirstFault) → IsOfLowest number gains stops xs told
      → (number x < told.session → (gain : Gain) × gains x gain)
      → IsOfLowest number gains stops all told
  of_others told of last = record {
    index = of.index;
    task = of.task;
    found = subst (λ list. slice_get list of.index ≡ Some of.task) are
        (get_front xs (x ∷ []) of.index of.task of.found);
    number_is = of.number_is;
    cause = of.cause;
    lower =
        λ place other is below.
        ⊎_elim (λ front. of.lower place other front below)
        (λ same.
        let e : number x ≡ number other = ap number same in
        let done = last (omega (arith, e, below)) in
        has_done done.0 done.1 other same)
        (among place other is);
  }

  -- if memory ran out outside of the tasks, and the others and the last have done their part, no task of all has a
  -- fault
  of_none : (told : FirstFault) → IsOutside told → ((place : ℕ) (other : Task) → slice_get xs place ≡ Some other
      → (gain : Gain) × gains other gain)
      → (gain : Gain) → gains x gain → IsOfNone gains all told
  of_none told outside rest gain is = record {
    outside = outside;
    all = λ place other found. ⊎_elim (λ front. rest place other front) (λ same. has_done gain is other same)
        (among place other found);
  }

  -- if there is a gain for each of the others, each has done its part
  done_all : (gone : List Gain) → AllZip gains xs gone → (place : ℕ) (other : Task) → slice_get xs place ≡ Some other
      → (gain : Gain) × gains other gain
  done_all gone zip place other is = let at = zip_at gains xs gone place other zip is in (at.0, at.2)

  -- if both the others and the last task have a fault, the one of the lower session is told of all
  of_lower : (other : FirstFault) (fault : RaceFault) (told : FirstFault) → number x ≤ 16
      → IsTold number gains stops xs other
      → (fault ≡ ThreadRefused) ⊎ stops x fault → IsLower other (number x) fault told
      → IsTold number gains stops all told
  of_lower other fault told few (inl of) cause is =
      ⊎_elim
      (λ same.
      let of_told : IsOfLowest number gains stops xs told =
      subst (λ one. IsOfLowest number gains stops xs one) (sym same) of in
      inl (of_others told of_told (λ below. absurd (omega (arith, below, is.below_own)))))
      (λ own. inl (of_last told fault own cause (λ place task found below. of.lower place task found
      (omega (arith, below, is.below_other)))))
      is.either
  of_lower other fault told few (inr none) cause is =
      ⊎_elim
      (λ same.
      let e : told.session ≡ other.session = ap (λ one. one.session) same in
      absurd (omega (arith, e, none.outside.above, is.below_own, few)))
      (λ own. inl (of_last told fault own cause (λ place task found below. none.all place task found)))
      is.either

  -- the fault that is returned after the last task has ended, whatever became of it and of the others, is told of all
  pub told_more : (others : Result (Vec Gain Global) FirstFault) (ended : Result Gain RaceFault) (told : FirstFault)
      (own : ℕ) → own ≡ number x → own ≤ 16
      → IfOk others (λ gone. AllZip gains xs gone.items) → IfErr others (IsTold number gains stops xs)
      → IfOk ended (gains x) → IfErr ended (λ fault. (fault ≡ ThreadRefused) ⊎ stops x fault)
      → Joins others own ended told → IsTold number gains stops all told
  told_more (Ok gone) (Ok gain) told own same few went before does stopped is =
      inr (of_none told is (done_all gone.items went) gain does)
  told_more (Ok gone) (Err fault) told own same few went before does stopped is =
      inl (of_last told fault (subst (λ n. IsOwn n fault told) same is) stopped
      (λ place other found below. done_all gone.items went place other found))
  told_more (Err other) (Err fault) told own same few went before does stopped is =
      of_lower other fault told (subst (λ n. n ≤ 16) same few) before stopped
      (subst (λ n. IsLower other n fault told) same is)
  told_more (Err other) (Ok gain) told own same few went (inl of) does stopped is =
      inl (of_others told (subst (λ one. IsOfLowest number gains stops xs one) (sym is) of) (λ below. (gain, does)))
  told_more (Err other) (Ok gain) told own same few went (inr none) does stopped is =
      inr (of_none told (subst IsOutside (sym is) none.outside) none.all gain does)

-- what that says of the runs of the tasks
module _ {Task Gain : Type 0} (number : Task → ℕ) (gains : Task → Gain → Type 0) (stops : Task → RaceFault → Type 0)
    (gate : ℕ → ℕ → Bool → Type 0)
    (base : State) (K : Run → Task → Type 0) (numbers : (run : Run) (task : Task) → K run task
    → number task ≡ (known_of run.pass).number)
    (through : (run : Run) (task : Task) (gain : Gain) → K run task → gains task gain → IsRunThrough gate base run)
    (halts : (run : Run) (task : Task) (fault : RaceFault) → K run task → stops task fault
    → Stops gate base (log_of run.pass).capacity (known_of run.pass) run.lines.items fault) where
  -- if the tasks of lower sessions have done their part, the runs of lower sessions were answered to their ends
  pub run_through : (runs : List Run) (tasks : List Task) (session : ℕ) → AllZip K runs tasks
      → ((place : ℕ) (other : Task) → slice_get tasks place ≡ Some other → number other < session
      → (gain : Gain) × gains other gain)
      → AreRunThrough gate base runs session
  run_through runs tasks session zip lower place run found below =
      let at = zip_at K runs tasks place run zip found in
      let same = numbers run at.0 at.2 in
      let done = lower place at.0 at.1 (omega (arith, same, below)) in
      through run at.0 done.0 at.2 done.1

  -- a fault that is told of the tasks is, of their runs, that of the lowest session
  pub tells : (runs : List Run) (tasks : List Task) (told : FirstFault) (fault : RaceFault) → told.fault ≡ fault
      → AllZip K runs tasks
      → IsTold number gains stops tasks told → TellsLowest gate base runs fault
  tells runs tasks told (GateShut session line) same zip (inl of) =
      let at = zip_get K runs tasks of.index of.task zip of.found in
      ⊎_elim (λ refused. let e : GateShut session line ≡ ThreadRefused = sym same ∙ refused in absurd cc)
      (λ stop.
      let is : IsShutAt gate base (known_of at.0.pass) at.0.lines.items session line =
      subst (λ one. Stops gate base (log_of at.0.pass).capacity (known_of at.0.pass) at.0.lines.items one) same
      (halts at.0 of.task told.fault at.2 stop) in
      let e : session ≡ told.session = is.reached.number ∙ sym (of.number_is ∙ numbers at.0 of.task at.2) in
      run_through runs tasks session zip (λ place other found below. of.lower place other found
      (omega (arith, below, e))))
      of.cause
  tells runs tasks told (GateShut session line) same zip (inr none) =
      run_through runs tasks session zip (λ place other found below. none.all place other found)
  tells runs tasks told (Full session line) same zip (inl of) =
      let at = zip_get K runs tasks of.index of.task zip of.found in
      ⊎_elim (λ refused. let e : Full session line ≡ ThreadRefused = sym same ∙ refused in absurd cc)
      (λ stop.
      let is : IsFullAt base (log_of at.0.pass).capacity (known_of at.0.pass) at.0.lines.items session line =
      subst (λ one. Stops gate base (log_of at.0.pass).capacity (known_of at.0.pass) at.0.lines.items one) same
      (halts at.0 of.task told.fault at.2 stop) in
      let e : session ≡ told.session = is.reached.number ∙ sym (of.number_is ∙ numbers at.0 of.task at.2) in
      run_through runs tasks session zip (λ place other found below. of.lower place other found
      (omega (arith, below, e))))
      of.cause
  tells runs tasks told (Full session line) same zip (inr none) =
      run_through runs tasks session zip (λ place other found below. none.all place other found)
  tells runs tasks told NoMemory same zip is = tt
  tells runs tasks told ThreadRefused same zip (inl of) =
      let at = zip_get K runs tasks of.index of.task zip of.found in some_at runs of.index at.0 at.1
  tells runs tasks told ThreadRefused same zip (inr none) = let e : ThreadRefused ≡ NoMemory =
      sym same ∙ none.outside.memory in absurd cc
