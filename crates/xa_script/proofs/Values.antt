-- What the values of options without a value say.
use Rattle.std.proofs.Common.{◌≡◌, ◌∙◌, ℕ, Bool, true, false, refl, sym, ap, List, length, Option, Some, None, codes}
use Rattle.std.{proofs.Common.arith, specs.Prelude.{◌≢◌, Result, Ok, Err, unwrap_or}}
use Rattle.std.specs.Str.Parse.{ParsesBool, true_text, false_text}
use Rattle.clap.specs.Words.{Text, ReadsOne}
use Rattle.xa_script.specs.CommandLine.{IsFlagOf}

-- `Some` of two texts is equal only if the texts are
some_is : {text other : Text} → Some text ≡ Some other → text ≡ other
some_is e = cc

-- an option without a value is read as given only if it is there
pub flag_read : {E : Type 0} (gives : List ℕ → Result Bool E → Type 0)
    → ((text : Text) (r : Result Bool E) → gives text r → ParsesBool text r)
    → (given : Option Text) (read : Option Bool) → (given ≡ None → read ≡ None)
    → ((text : List ℕ) → given ≡ Some text → ReadsOne gives text read) → unwrap_or read false ≡ true
    → given ≡ Some (codes "true")
flag_read gives parses given None none value is = cc
flag_read gives parses None (Some flag) none value is = let e : Some flag ≡ None = none refl in cc
flag_read gives parses (Some text) (Some false) none value is = cc
flag_read gives parses (Some text) (Some true) none value is = ap Some (parses text (Ok true) (value text refl))

-- an option without a value is read as not given only if it isn't there
pub no_flag_read : {E : Type 0} (gives : List ℕ → Result Bool E → Type 0)
    → ((text : Text) (r : Result Bool E) → gives text r → ParsesBool text r)
    → (given : Option Text) (read : Option Bool) → (given ≡ None → read ≡ None)
    → ((text : List ℕ) → given ≡ Some text → ReadsOne gives text read) → unwrap_or read false ≡ false
    → given ≢ Some (codes "true")
no_flag_read gives parses None read none value is same = cc
no_flag_read gives parses (Some text) (Some true) none value is same = cc
no_flag_read gives parses (Some text) (Some false) none value is same =
    let e : true_text ≡ false_text = sym (some_is same) ∙ parses text (Ok false) (value text refl) in
    absurd (omega (arith, ap length e))
no_flag_read gives parses (Some text) None none value is same =
    let failed = value text refl in
    absurd ((parses text (Err failed.0) failed.1).0 (some_is same))

-- a flag that is true exactly if the option's value is `true` is that option's flag
pub flag_of : (given : Option Text) (flag : Bool) → (flag ≡ true → given ≡ Some (codes "true"))
    → (flag ≡ false → given ≢ Some (codes "true"))
    → IsFlagOf given flag
flag_of given true is absent = is refl
flag_of given false is absent = absent refl
