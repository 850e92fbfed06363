-- Identities in any ring that division, Euclid's algorithm and the reduction of fractions need.
use mathlib.Core.Path.{◌≡◌, sym, ◌∙◌, ap, ap₂}
use Rattle.algebra.proofs.Ring.{Ring, ring, mul_comm, mul_left_comm, mul-one, one-mul}

module _ (R : Ring) where
  open R use {Carrier, add as ◌⊕◌, mul as ◌⊗◌, neg as ⊖◌, one}

  infixl 60 ◌⊕◌
  infixl 70 ◌⊗◌
  infix 80 ⊖◌
  -- q g + r = q' g + r' as an equation of the differences
  pub division_difference : (g q r q' r' : Carrier) → q ⊗ g ⊕ r ≡ q' ⊗ g ⊕ r' → (q ⊕ ⊖ q') ⊗ g ≡ r' ⊕ ⊖ r
  division_difference g q r q' r' e = left ∙ ap (λ x. x ⊕ ⊖ (q' ⊗ g ⊕ r)) e ∙ right
    where
      left : (q ⊕ ⊖ q') ⊗ g ≡ q ⊗ g ⊕ r ⊕ ⊖ (q' ⊗ g ⊕ r)
      left = simp ring

      right : q' ⊗ g ⊕ r' ⊕ ⊖ (q' ⊗ g ⊕ r) ≡ r' ⊕ ⊖ r
      right = simp ring

  -- one step of Euclid's algorithm, backwards: d as a combination of g and r is one of f and g
  pub euclid_combination : (d f g q r u v : Carrier) → d ≡ u ⊗ g ⊕ v ⊗ r → f ≡ q ⊗ g ⊕ r → d ≡ v ⊗ f ⊕ (u ⊕ ⊖ (v ⊗ q)) ⊗ g
  euclid_combination d f g q r u v ed ef = rw (ed, ef) (simp ring)

  -- and a divisor of g and r divides f
  pub euclid_multiple : (d f g q r g' r' : Carrier) → f ≡ q ⊗ g ⊕ r → g ≡ d ⊗ g' → r ≡ d ⊗ r' → f ≡ d ⊗ (q ⊗ g' ⊕ r')
  euclid_multiple d f g q r g' r' ef eg er = rw (ef, eg, er) (simp ring)

  -- d = u f + v g, divided by the common factor d
  pub bezout_divided : (d u v f g f' g' : Carrier) → d ≡ u ⊗ f ⊕ v ⊗ g → f ≡ d ⊗ f' → g ≡ d ⊗ g'
      → d ⊗ (u ⊗ f' ⊕ v ⊗ g') ≡ d ⊗ one
  bezout_divided d u v f g f' g' ed ef eg =
      inside ∙ ap₂ (λ x y. u ⊗ x ⊕ v ⊗ y) (sym ef) (sym eg) ∙ sym ed ∙ sym (mul-one R d)
    where
      inside : d ⊗ (u ⊗ f' ⊕ v ⊗ g') ≡ u ⊗ (d ⊗ f') ⊕ v ⊗ (d ⊗ g')
      inside = simp ring

  -- factors t and i with t i = 1 change neither a combination that is 1 nor a product
  pub bezout_scaled : (t i u v f g : Carrier) → t ⊗ i ≡ one → u ⊗ f ⊕ v ⊗ g ≡ one → (t ⊗ u) ⊗ (i ⊗ f) ⊕ (t ⊗ v) ⊗ (i ⊗ g) ≡ one
  bezout_scaled t i u v f g e b = apart ∙ ap₂ ◌⊗◌ e b ∙ mul-one R one
    where
      apart : (t ⊗ u) ⊗ (i ⊗ f) ⊕ (t ⊗ v) ⊗ (i ⊗ g) ≡ (t ⊗ i) ⊗ (u ⊗ f ⊕ v ⊗ g)
      apart = simp ring

  pub multiple_scaled : (t i d f : Carrier) → t ⊗ i ≡ one → d ⊗ f ≡ (t ⊗ d) ⊗ (i ⊗ f)
  multiple_scaled t i d f e = sym (apart ∙ ap (λ x. x ⊗ (d ⊗ f)) e ∙ one-mul R _)
    where
      apart : (t ⊗ d) ⊗ (i ⊗ f) ≡ (t ⊗ i) ⊗ (d ⊗ f)
      apart = simp ring

  -- f h = q a with a and h coprime: h divides q
  pub split_off : (q r a s h f : Carrier) → f ⊗ h ≡ q ⊗ a → r ⊗ a ⊕ s ⊗ h ≡ one → q ≡ h ⊗ (r ⊗ f ⊕ s ⊗ q)
  split_off q r a s h f e b =
      sym (mul-one R q) ∙ ap (λ x. q ⊗ x) (sym b) ∙ inside ∙ ap (λ x. r ⊗ x ⊕ s ⊗ (q ⊗ h)) (sym e) ∙ outside
    where
      inside : q ⊗ (r ⊗ a ⊕ s ⊗ h) ≡ r ⊗ (q ⊗ a) ⊕ s ⊗ (q ⊗ h)
      inside = simp ring

      outside : r ⊗ (f ⊗ h) ⊕ s ⊗ (q ⊗ h) ≡ h ⊗ (r ⊗ f ⊕ s ⊗ q)
      outside = simp ring

  -- f psi = q phi, divided by the common factor c of phi and psi
  pub cross_divided : (c f h q a psi phi : Carrier) → psi ≡ c ⊗ h → phi ≡ c ⊗ a → f ⊗ psi ≡ q ⊗ phi → c ⊗ (f ⊗ h) ≡ c ⊗ (q ⊗ a)
  cross_divided c f h q a psi phi eh ea e =
      mul_left_comm R c f h ∙ ap (λ x. f ⊗ x) (sym eh) ∙ e ∙ ap (λ x. q ⊗ x) ea ∙ mul_left_comm R q c a

  -- f h = q a and q = h q', so that f = a q' once h is cancelled
  pub part_divided : (h f q a q' : Carrier) → f ⊗ h ≡ q ⊗ a → q ≡ h ⊗ q' → h ⊗ f ≡ h ⊗ (a ⊗ q')
  part_divided h f q a q' e eq = mul_comm R h f ∙ e ∙ ap (λ x. x ⊗ a) eq ∙ sorted
    where
      sorted : (h ⊗ q') ⊗ a ≡ h ⊗ (a ⊗ q')
      sorted = simp ring
