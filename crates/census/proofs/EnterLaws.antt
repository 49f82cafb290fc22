-- A word comes: what becomes of the depths at which names are bound. Assumes nothing.
use Prim.Native.Nat.{ℕ, ◌+◌, ◌-◌, ◌≤◌, ◌<◌}
use native.Mathlib.Omega.{arith}
use native.Mathlib.Numerals.{add-one}
use mathlib.Core.Path.{◌≡◌, refl, sym, ap, ◌∙◌}
use mathlib.Core.Bool.{true, false}
use mathlib.Core.List.{List, [], ◌∷◌}
use mathlib.Core.Logic.{◌⊎◌, inl, inr}
use lib.Dec.{eqb}
use lib.ListN.{length, get_or, set, length-set}
use lib.Seq.{get_or-set_same, get_or-set_other}
use borrow.Author.Tests.{ne_eqb, eq-eqb}
use Rattle.trees.proofs.Tests.{bool, false_true}
use Rattle.text.specs.Words.{same}
use Rattle.text.specs.Unfold.{listed, number_in}
use Rattle.text.proofs.NameLaws.{number_at, same_refl}
use Rattle.text.proofs.ClassLaws.{same_true}
use Rattle.census.specs.Folds.{Event, uses, binds, opens, closes}
use Rattle.census.specs.Tables.{name_code}
use Rattle.census.specs.Scopes.{lowered, binding_at, bind_in, close_in, loose_in, name_event, chosen, scope_event, Distinct, Lowered, Scoped, Enters}

-- what the word is, way by way
module _ (mode word : ℕ) (x : List ℕ) where
  pub is_binding : word ≡ 0 → mode ≡ 3 → scope_event mode word x ≡ binds x ∷ []
  unfolding scope_event chosen name_event
  is_binding e f = rw (e, f)

  pub is_use : word ≡ 0 → mode ≡ 5 → scope_event mode word x ≡ uses x ∷ []
  unfolding scope_event chosen name_event
  is_use e f = rw (e, f)

  pub is_name : word ≡ 0 → (mode ≡ 3 → ⊥) → (mode ≡ 5 → ⊥) → scope_event mode word x ≡ []
  unfolding scope_event chosen name_event
  is_name e n m = rw (e, ne_eqb mode 3 n, ne_eqb mode 5 m, name_event)

  pub is_opening : word ≡ 14 → mode ≡ 0 → scope_event mode word x ≡ opens ∷ []
  unfolding scope_event chosen
  is_opening e f = rw (e, f)

  pub is_call : word ≡ 14 → (mode ≡ 0 → ⊥) → scope_event mode word x ≡ []
  unfolding scope_event chosen
  is_call e n = rw (e, ne_eqb mode 0 n, chosen)

  pub is_end : word ≡ 15 → mode ≡ 6 → scope_event mode word x ≡ []
  unfolding scope_event chosen
  is_end e f = rw (e, f)

  pub is_closing : word ≡ 15 → (mode ≡ 6 → ⊥) → scope_event mode word x ≡ closes ∷ []
  unfolding scope_event chosen
  is_closing e n = rw (e, ne_eqb mode 6 n, chosen)

  pub is_other : (word ≡ 0 → ⊥) → (word ≡ 14 → ⊥) → (word ≡ 15 → ⊥) → scope_event mode word x ≡ []
  unfolding scope_event chosen
  is_other n m o = rw (ne_eqb word 0 n, ne_eqb word 14 m, ne_eqb word 15 o, chosen)

module _ (names : List (List ℕ)) (now : List Event) (since : List ℕ) (d : ℕ) where
  pub enters_none : now ≡ [] → Enters names now since since d d false
  enters_none e = record {
    near = omega arith;
    sized = λ s. s;
    after = λ env s k c. record { env' = env; scoped = c; tells = λ es. rw e };
  }

  pub enters_open : now ≡ opens ∷ [] → Enters names now since since d (d + 1) false
  unfolding loose_in
  enters_open e = record {
    near = omega arith;
    sized = λ s. s;
    after = λ env s k c. record { env' = env; scoped = c; tells = λ es. rw (e, add-one d) };
  }

  enters_use : (x : List ℕ) (v : ℕ) → now ≡ uses x ∷ [] → v ≡ number_in names x → v < length names → listed names x ≡ true → Enters names now since since d d (eqb (get_or since v 0) 0)
  unfolding loose_in
  enters_use x v e i h l = record {
    near = omega arith;
    sized = λ s. s;
    after = λ env s k c.
        let z : get_or since v 0 ≡ env x = c v h ∙ ap (λ (u : ℕ). env (get_or names u [])) i ∙ ap env (number_at names x l) in
        record { env' = env; scoped = c; tells = λ es. rw (e, z) };
  }

  pub enters_loose : (x : List ℕ) (v : ℕ) → now ≡ uses x ∷ [] → v ≡ number_in names x → v < length names → listed names x ≡ true → get_or since v 0 ≡ 0 → Enters names now since since d d true
  enters_loose x v e i h l z = rw (eq-eqb (get_or since v 0) 0 z) at (enters_use x v e i h l)

  pub enters_bound : (x : List ℕ) (v : ℕ) → now ≡ uses x ∷ [] → v ≡ number_in names x → v < length names → listed names x ≡ true → (get_or since v 0 ≡ 0 → ⊥) → Enters names now since since d d false
  enters_bound x v e i h l n = rw (ne_eqb (get_or since v 0) 0 n) at (enters_use x v e i h l)

  pub enters_close : (since' : List ℕ) (outer : ℕ) → now ≡ closes ∷ [] → outer ≡ d - 1 → length names ≤ 4 → Lowered outer since since' → Enters names now since since' d outer false
  unfolding loose_in
  enters_close since' outer e o h w = record {
    near = omega arith;
    sized = λ s. (w s).0;
    after = λ env s k c. record {
      env' = close_in outer env;
      scoped = λ v q. (w s).1 v (omega arith) ∙ ap (lowered outer) (c v q);
      tells = λ es. rw (e, o);
    };
  }

  pub enters_bind : (x : List ℕ) (v b : ℕ) → now ≡ binds x ∷ [] → v ≡ number_in names x → v < length names → length names ≤ 4 → listed names x ≡ true
      → b ≡ binding_at d true (get_or since v 0) → Enters names now since (set since v b) d d false
  unfolding loose_in
  enters_bind x v b e i h f l z = record {
    near = omega arith;
    sized = λ s. length-set since v b ∙ s;
    after = λ env s k c. record { env' = bind_in d x env; scoped = λ j q. shown env s k c j q (bool (same x (get_or names j []))); tells = λ es. rw e };
  }
    where
      shown : (env : List ℕ → ℕ) → length since ≡ 4 → Distinct names → Scoped names since env → (j : ℕ) → j < length names
          → (same x (get_or names j []) ≡ true) ⊎ (same x (get_or names j []) ≡ false) → get_or (set since v b) j 0 ≡ binding_at d (same x (get_or names j [])) (env (get_or names j []))
      shown env s k c j q (inl u) =
          let y : x ≡ get_or names j [] = same_true x (get_or names j []) u in
          let w : v ≡ j = i ∙ ap (number_in names) y ∙ k j q in
          rw u (ap (λ (o : ℕ). get_or (set since v b) o 0) (sym w) ∙ get_or-set_same since v b 0 (omega arith) ∙ z
          ∙ ap (binding_at d true) (ap (λ (o : ℕ). get_or since o 0) w ∙ c j q))
      shown env s k c j q (inr u) =
          rw u (get_or-set_other since v j b 0 (λ w. false_true u (rw (ap (λ (o : ℕ). get_or names o []) (w ∙ i) ∙ number_at names x l) (same_refl x))) ∙ c j q ∙ unfold binding_at in refl)

-- such a name is a variable
pub variable_slot : (mode word : ℕ) → word ≡ 0 → (mode ≡ 3) ⊎ (mode ≡ 5) → name_code false mode word ≡ true
unfolding name_code
variable_slot mode word e (inl f) = rw (e, f)
variable_slot mode word e (inr f) = rw (e, f)
