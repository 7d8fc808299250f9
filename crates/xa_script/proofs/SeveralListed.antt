-- What is written for several records, one after another.
use Rattle.std.proofs.Common.{◌≡◌, ◌∙◌, ◌+◌, ◌++◌, ◌∷◌, [], ℕ, Bool, List, Option, Some, None, map, length, refl, sym}
use Rattle.std.proofs.Common.{ap, subst, arith, append-nil, length-append}
use Rattle.std.{proofs.lemmas.List.{append_assoc, map_push, map-id}, specs.Prelude.IfSome}
use Rattle.xa_server.specs.State.{State}
use Rattle.xa_record.specs.declared.{allowance.Allowance.Allowance, asked.Asked.Asked}
use Rattle.xa_script.specs.{Listing.{worse, worst_from, piece, pieces}, Several.{IsVerdictOn, AreVerdicts, IsListing}}
use Rattle.xa_script.proofs.Audited.{taken_more}

-- the worst of `first`, `statuses` and `status` is the worse of the worst of the others and `status`
worst_more : (first : ℕ) (statuses : List ℕ) (status : ℕ)
    → worst_from first (statuses ++ status ∷ []) ≡ worse (worst_from first statuses) status
worst_more first [] status = refl
worst_more first (one ∷ statuses) status = worst_more (worse first one) statuses status

-- what is written for several records and one more has that record's piece at the end, with the number `last`
pieces_more : (tap : Bool) (number last : ℕ) (names : List (List ℕ)) (name : List ℕ) (verdicts : List (ℕ × List ℕ))
    (verdict : ℕ × List ℕ) → length names ≡ length verdicts → last ≡ number + length names
    → pieces tap number (names ++ name ∷ []) (verdicts ++ verdict ∷ [])
    ≡ pieces tap number names verdicts ++ piece tap last name verdict
pieces_more tap number last [] name [] verdict same is =
    let at : last ≡ number = omega (arith, is) in
    append-nil (piece tap number name verdict) ∙ ap (λ (place : ℕ). piece tap place name verdict) (sym at)
pieces_more tap number last [] name (one ∷ verdicts) verdict same is = absurd (omega (arith, same))
pieces_more tap number last (first ∷ names) name [] verdict same is = absurd (omega (arith, same))
pieces_more tap number last (first ∷ names) name (one ∷ verdicts) verdict same is =
    let rest = pieces_more tap (number + 1) last names name verdicts verdict (omega (arith, same))
    (omega (arith, is)) in
    ap (λ (text : List ℕ). piece tap number first one ++ text) rest
    ∙ sym (append_assoc (piece tap number first one) (pieces tap (number + 1) names verdicts)
    (piece tap last name verdict))

-- verdicts on several records, and a verdict on one record more, are verdicts on them all
are_more : (base : State) (allowances : List Allowance) (asked : Asked) (records : List (List ℕ)) (seen : List ℕ)
    (verdicts : List (ℕ × List ℕ)) (verdict : ℕ × List ℕ) → AreVerdicts base allowances asked records verdicts
    → IsVerdictOn base allowances asked seen verdict
    → AreVerdicts base allowances asked (records ++ seen ∷ []) (verdicts ++ verdict ∷ [])
are_more base allowances asked [] seen [] verdict are is = (is, tt)
are_more base allowances asked [] seen (one ∷ verdicts) verdict are is = absurd are
are_more base allowances asked (first ∷ records) seen [] verdict are is = absurd are
are_more base allowances asked (first ∷ records) seen (one ∷ verdicts) verdict are is =
    (are.0, are_more base allowances asked records seen verdicts verdict are.1 is)

-- there are as many verdicts as records
as_many : (base : State) (allowances : List Allowance) (asked : Asked) (records : List (List ℕ))
    (verdicts : List (ℕ × List ℕ)) → AreVerdicts base allowances asked records verdicts
    → length records ≡ length verdicts
as_many base allowances asked [] [] are = refl
as_many base allowances asked [] (one ∷ verdicts) are = absurd are
as_many base allowances asked (first ∷ records) [] are = absurd are
as_many base allowances asked (first ∷ records) (one ∷ verdicts) are =
    let rest = as_many base allowances asked records verdicts are.1 in omega (arith, rest)

-- for no records nothing is written behind `before`, and the status is 0
pub none_listed : (base : State) (allowances : List Allowance) (asked : Asked) (tap : Bool) (before text : List ℕ)
    → text ≡ before → IsListing base allowances asked tap before [] [] 0 text
none_listed base allowances asked tap before text is = record {
  verdicts = [];
  named = refl;
  are = tt;
  counts = refl;
  text_is = is ∙ sym (append-nil before);
}

-- a listing for some records, with the piece of one record more behind it, is one for all of these; its status is the
-- worse of the two
listing_more : (base : State) (allowances : List Allowance) (asked : Asked) (tap : Bool) (before : List ℕ)
    (names records : List (List ℕ)) (name seen : List ℕ) (count status next : ℕ) (text more : List ℕ)
    (verdict : ℕ × List ℕ) → count ≡ length names → IsListing base allowances asked tap before names records status text
    → IsVerdictOn base allowances asked seen verdict → next ≡ worse status verdict.0
    → more ≡ text ++ piece tap (count + 1) name verdict
    → IsListing base allowances asked tap before (names ++ name ∷ []) (records ++ seen ∷ []) next more
listing_more base allowances asked tap before names records name seen count status next text more verdict many so_far
    is counts written =
    let verdicts = so_far.verdicts in
    let statuses = map (λ (one : ℕ × List ℕ). one.0) verdicts in
    let same : length names ≡ length verdicts =
    so_far.named ∙ as_many base allowances asked records verdicts so_far.are in
    let last = piece tap (count + 1) name verdict in
    record {
      verdicts = verdicts ++ verdict ∷ [];
      named = omega (arith, so_far.named, length-append names (name ∷ []), length-append records (seen ∷ []));
      are = are_more base allowances asked records seen verdicts verdict so_far.are is;
      counts =
          counts ∙ ap (λ (one : ℕ). worse one verdict.0) so_far.counts
          ∙ sym (worst_more 0 statuses verdict.0)
          ∙ ap (λ (all : List ℕ). worst_from 0 all) (sym (map_push (λ (one : ℕ × List ℕ). one.0) verdicts verdict));
      text_is =
          written ∙ ap (λ (front : List ℕ). front ++ last) so_far.text_is
          ∙ append_assoc before (pieces tap 1 names verdicts) last
          ∙ ap (λ (rest : List ℕ). before ++ rest)
          (sym (pieces_more tap 1 (count + 1) names name verdicts verdict same (omega (arith, many))));
    }

-- what is written for records, and then for one more, is what is written for them all
next_listed : (base : State) (allowances : List Allowance) (asked : Asked) (tap own : Bool) (before : List ℕ)
    (names : List (List ℕ)) (name : List ℕ) (count status next : ℕ) (text more : List ℕ) (input : Option (List ℕ))
    → own ≡ tap → count ≡ length names
    → IfSome input (λ seen. (verdict : ℕ × List ℕ) × IsVerdictOn base allowances asked seen verdict
    × (next ≡ worse status verdict.0) × (more ≡ text ++ piece own (count + 1) name verdict))
    → IfSome input (λ seen. (records : List (List ℕ))
    → IsListing base allowances asked tap before names records status text
    → IsListing base allowances asked tap before (names ++ name ∷ []) (records ++ seen ∷ []) next more)
next_listed base allowances asked tap own before names name count status next text more None same many taken = tt
next_listed base allowances asked tap own before names name count status next text more (Some seen) same many taken =
    λ records so_far. listing_more base allowances asked tap before names records name seen count status next text more
    taken.0 many so_far taken.1 taken.2
    (taken.3 ∙ ap (λ (form : Bool). text ++ piece form (count + 1) name taken.0) same)

-- a mapped list is as long as the list
mapped_long : {A B : Type 0} (f : A → B) (all : List A) → length (map f all) ≡ length all
mapped_long f [] = refl
mapped_long f (one ∷ all) = let rest = mapped_long f all in omega (arith, rest)

-- if a text is what is written for the records of several readers, that text and the piece of one reader more are what
-- is written for the records of all these
pub list_more : {S : Type 0} (sources : List S) (source : S) (remaining : S → Option (List ℕ)) (name : S → List ℕ)
    (base : State) (allowances : List Allowance) (asked : Asked) (tap own : Bool) (before : List ℕ)
    (count status next : ℕ) (text more : List ℕ) → own ≡ tap → count ≡ length sources
    → ((records : List (List ℕ)) → map remaining sources ≡ map Some records
    → IsListing base allowances asked tap before (map name sources) records status text)
    → IfSome (remaining source) (λ seen. (verdict : ℕ × List ℕ) × IsVerdictOn base allowances asked seen verdict
    × (next ≡ worse status verdict.0) × (more ≡ text ++ piece own (count + 1) (name source) verdict))
    → (records : List (List ℕ)) → map remaining (sources ++ source ∷ []) ≡ map Some records
    → IsListing base allowances asked tap before (map name (sources ++ source ∷ [])) records next more
list_more sources source remaining name base allowances asked tap own before count status next text more same many
    so_far taken records are =
    let names = map name sources in
    let step = next_listed base allowances asked tap own before names (name source) count status next text more
    (remaining source) same (many ∙ sym (mapped_long name sources)) taken in
    let at : List (List ℕ) → Type 0 = λ all. IsListing base allowances asked tap before all records next more in
    subst at (sym (map_push name sources source))
    (taken_more sources source remaining (λ all. IsListing base allowances asked tap before names all status text)
    (λ all. IsListing base allowances asked tap before (names ++ name source ∷ []) all next more) so_far step records
    are)

-- if the readers that were taken are all, what is written for their records is what is written for all
pub list_all : {S : Type 0} (taken all : List S) (remaining : S → Option (List ℕ)) (name : S → List ℕ)
    (base : State) (allowances : List Allowance) (asked : Asked) (tap : Bool) (before : List ℕ) (status : ℕ)
    (text : List ℕ) → map (λ source. source) taken ≡ all
    → ((records : List (List ℕ)) → map remaining taken ≡ map Some records
    → IsListing base allowances asked tap before (map name taken) records status text)
    → (records : List (List ℕ)) → map remaining all ≡ map Some records
    → IsListing base allowances asked tap before (map name all) records status text
list_all taken all remaining name base allowances asked tap before status text same so_far =
    subst (λ (sources : List _). (records : List (List ℕ)) → map remaining sources ≡ map Some records
    → IsListing base allowances asked tap before (map name sources) records status text)
    (sym (map-id taken) ∙ same) so_far
