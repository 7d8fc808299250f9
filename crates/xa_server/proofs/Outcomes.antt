-- Facts that hold of one outcome of a call.
use Rattle.std.specs.Prelude.{Result, Ok, Err, OnOk, OnErr, IfOk}

-- what follows from an Ok and from an Err follows from a result
pub either_way : {T E : Type 0} (r : Result T E) {P Q C : Type 0} → OnOk r P → OnErr r Q → (P → C) → (Q → C) → C
either_way (Ok x) p q f g = f p
either_way (Err e) p q f g = g q

-- what follows from something that holds at `Ok` holds at `Ok`
pub on_ok : {T E : Type 0} (r : Result T E) {P Q : Type 0} → OnOk r P → (P → Q) → OnOk r Q
on_ok (Ok x) p f = f p
on_ok (Err e) p f = p

-- what follows from something that holds at `Err` holds at `Err`
pub on_err : {T E : Type 0} (r : Result T E) {P Q : Type 0} → OnErr r P → (P → Q) → OnErr r Q
on_err (Ok x) p f = p
on_err (Err e) p f = f p

-- what follows from something that holds of the value at `Ok` holds of it
pub if_ok : {T E : Type 0} (r : Result T E) {P Q : T → Type 0} → IfOk r P → ((x : T) → P x → Q x) → IfOk r Q
if_ok (Ok x) p f = f x p
if_ok (Err e) p f = p

-- what holds anyway holds at `Err`
pub err_value : {T E : Type 0} (r : Result T E) {P : Type 0} → P → OnErr r P
err_value (Ok x) p = tt
err_value (Err e) p = p

-- what follows from two facts of an Ok, and from two of an Err, follows from a result
pub whichever : {T E : Type 0} (r : Result T E) {P Q R S C : Type 0} → OnOk r P → OnErr r Q → OnOk r R → OnErr r S
    → (P → R → C) → (Q → S → C) → C
whichever (Ok x) p q s t f g = f p s
whichever (Err e) p q s t f g = g q t

-- what follows from two facts that hold at `Ok` holds at `Ok`
pub on_ok_both : {T E : Type 0} (r : Result T E) {P R Q : Type 0} → OnOk r P → OnOk r R → (P → R → Q) → OnOk r Q
on_ok_both (Ok x) p s f = f p s
on_ok_both (Err e) p s f = p

-- what follows from two facts that hold at `Err` holds at `Err`
pub on_err_both : {T E : Type 0} (r : Result T E) {P R Q : Type 0} → OnErr r P → OnErr r R → (P → R → Q) → OnErr r Q
on_err_both (Ok x) p s f = p
on_err_both (Err e) p s f = f p s
