-- What holds of the texts of several readers, such as histories, one after another; and what is as it was is kept.
use Rattle.std.proofs.Common.{◌≡◌, ◌∙◌, ◌++◌, ◌∷◌, [], ℕ, List, Option, Some, None, map, refl, sym, ap, subst}
use Rattle.std.{proofs.lemmas.List.{map_push, map-id}, specs.{Prelude.IfSome, Io.KnownBytes.Keeps}}

-- if the values of `all` and then `last` are known to be `texts`, these are a front and one value more: `all` has the
-- front, and `last` has that value
pub last_known : {A : Type 0} (all : List (Option A)) (last : Option A) (texts : List A)
    → all ++ last ∷ [] ≡ map Some texts
    → (front : List A) × (text : A) × (texts ≡ front ++ text ∷ []) × (all ≡ map Some front) × (last ≡ Some text)
last_known [] last [] e = cc
last_known [] last (text ∷ []) e = ([], text, refl, refl, cc)
last_known [] last (text ∷ next ∷ texts) e = cc
last_known (first ∷ all) last [] e = cc
last_known (first ∷ all) last (text ∷ texts) e =
    let same : first ≡ Some text = cc in
    let rest : all ++ last ∷ [] ≡ map Some texts = cc in
    let more = last_known all last texts rest in
    (text ∷ more.0, more.1, ap (λ xs. text ∷ xs) more.2, rw (same, more.3) refl, more.4)

-- if no source has a text, there are no `texts`: what holds of the empty list holds of them
pub none_known : (P : List (List ℕ) → Type 0) (texts : List (List ℕ)) → P [] → [] ≡ map Some texts → P texts
none_known P [] holds e = holds
none_known P (text ∷ texts) holds e = cc

-- if `P` holds of the texts that some sources hold (`remaining`), and gives `Q` of these with the text of one source
-- more, `Q` holds of the texts of them all, where they are known
pub taken_more : {S : Type 0} (sources : List S) (source : S) (remaining : S → Option (List ℕ))
    (P Q : List (List ℕ) → Type 0)
    → ((texts : List (List ℕ)) → map remaining sources ≡ map Some texts → P texts)
    → IfSome (remaining source) (λ text. (texts : List (List ℕ)) → P texts → Q (texts ++ text ∷ []))
    → (texts : List (List ℕ)) → map remaining (sources ++ source ∷ []) ≡ map Some texts → Q texts
taken_more sources source remaining P Q before next texts e =
    let k = last_known (map remaining sources) (remaining source) texts (sym (map_push remaining sources source) ∙ e) in
    let at : Option (List ℕ) → Type 0 = λ o. IfSome o (λ text. (front : List (List ℕ)) → P front
    → Q (front ++ text ∷ [])) in
    subst Q (sym k.2) (subst at k.4 next k.0 (before k.0 k.3))

-- if the sources that were taken are all of them, what holds of the texts of those taken holds of the texts of all
pub taken_all : {S : Type 0} (taken all : List S) (remaining : S → Option (List ℕ)) (P : List (List ℕ) → Type 0)
    → map (λ source. source) taken ≡ all
    → ((texts : List (List ℕ)) → map remaining taken ≡ map Some texts → P texts)
    → (texts : List (List ℕ)) → map remaining all ≡ map Some texts → P texts
taken_all taken all remaining P same holds texts e = holds texts (ap (map remaining) (sym (map-id taken) ∙ same) ∙ e)

-- what is as it was is kept
pub kept_all : (o : Option (List ℕ)) → Keeps o o
kept_all None = tt
kept_all (Some xs) = refl
