-- A promise leaves one result: document 01, "How tight the promises are". A promise is an equation `said result ≡ what the definition gives`,
-- where `said` is the identity, or what a paper's number and values say of an answer. Where `said` can be undone, two results that
-- meet the promise are equal. Every uniqueness theorem of this project is this lemma. Assumes nothing.
use mathlib.Core.Path.{◌≡◌, refl, sym, ◌∙◌, ap}

pub only_one : {A B : Type 0} (said : A → B) (undone : B → A) → ((a : A) → undone (said a) ≡ a) → (x y : A) (given : B) → said x ≡ given → said y ≡ given → x ≡ y
only_one said undone back x y given p q = sym (back x) ∙ ap undone (p ∙ sym q) ∙ back y

-- the same where the promise is `result ≡ what the definition gives`
pub only-this : {A : Type 0} (x y given : A) → x ≡ given → y ≡ given → x ≡ y
only-this = only_one (λ a. a) (λ a. a) (λ a. refl)
