-- The candidate that the code holds after each output is a candidate in the sense of the method, or there is no answer.
use mathlib.Core.Path.{◌≡◌, refl, sym, ◌∙◌, ap, subst}
use mathlib.Core.List.{List}
use Prim.Native.Nat.{ℕ, zero, suc, ◌+◌, ◌-◌, ◌≤◌, ◌<◌}
use native.Mathlib.Decide.{dec_lt, ℕ_discrete}
use native.Mathlib.Omega.{arith}
use lib.ListN.{length, set}
use borrow.Author.Tests.{lt-ltb, le-ltb}
use Rattle.std.specs.Prelude.{Option, Some, None, option_and_then}
use Rattle.std.specs.Option.{MatchOption, option_map}
use Rattle.algebra.proofs.Series.{Series, mul_s}
use Rattle.algebra.proofs.Bounds.{Below}
use Rattle.algebra.proofs.Degree.{HasDegree}
use Rattle.algebra.proofs.LowestTerms.{LowestTerms, monic_degree}
use Rattle.method.proofs.Solution.{Solves}
use Rattle.method.proofs.Problem.{Problem, None as Unanswered, phi_degree}
use Rattle.method.proofs.CrossProduct.{conditions, psi_degree}
use Rattle.method.proofs.Outputs.{Candidate as MethodCandidate, Extends, first_candidate, next_candidate, none_if_denominator_too_long, none_if_new_numerator_too_long, none_if_old_numerator_too_long}
use Rattle.format.specs.declared.Bounds.{Bounds}
use Rattle.format.specs.Bounds.{numerator_bound_of, prime_of}
use Rattle.poly.specs.declared.Poly.{Poly}
use Rattle.poly.specs.declared.Vector.{Vector}
use Rattle.poly.specs.Coefficients.{Bounded}
use Rattle.poly.specs.Operations.{length_below, length_of, product_of}
use Rattle.poly.specs.Vectors.{coefficients_at}
use Rattle.poly.proofs.Lists.{bounded_mono}
use Rattle.poly.proofs.Lengths.{bounded_length, length_at_most}
use Rattle.poly_meaning.proofs.Series.{series_below, constant_means}
use Rattle.poly_meaning.proofs.Products.{product_means}
use Rattle.poly_meaning.proofs.Degrees.{length_means, degree-length, below_bounded}
use Rattle.format.proofs.Sizes.{numerator_low, denominator-low}
use Rattle.soundness.proofs.Tables.{P, R, F, poly, evaluation, problem, Usable, ample, capacity}
use Rattle.candidate.specs.Extensions.{Fitting, numerator_at, raised_at, raised_below, with_output, extended_of}
use Rattle.candidate.proofs.Fittings.{bounded_raised, set_same, set_other, fitting_set}
use Rattle.candidate.proofs.ExtensionLaws.{raised_too_long, raised-fits}
use Rattle.candidate.specs.Candidates.{start_candidate}
use Rattle.candidate.proofs.CandidateLaws.{fitting_start}

module _ (b : Bounds) (speaking : ℕ) (points weights values : List ℕ) (U : Usable b speaking points weights values) where
  abbrev p : ℕ
  p = prime_of b

  abbrev T : Problem (R b)
  T = problem b points weights values

  -- a candidate of the code that is one of the method
  pub record Good (i : ℕ) (v : Vector) : Type 0 where
    pub degree : ℕ
    pub candidate : MethodCandidate (F b) 32 (problem b points weights values) i (λ j. poly b (numerator_at v j)) (poly b v.g.c) degree
    pub g-length : length_of v.g.c ≡ suc degree
    pub fitting : Fitting b v

  -- after i outputs: a candidate, or there is no answer
  abbrev pub Verdict : ℕ → Option Vector → Type 0
  Verdict i o = MatchOption o (Unanswered (F b) 32 (problem b points weights values)) (Good i)

  pub start_decided : Good 0 start_candidate
  unfolding start_candidate length_of length_below
  start_decided = record {
    degree = 0;
    candidate = subst (λ g. MethodCandidate (F b) 32 T 0 (λ j. poly b (numerator_at start_candidate j)) g 0) (sym (constant_means p (P b) 1 31))
        (first_candidate (F b) 32 T (λ j. poly b (numerator_at start_candidate j)));
    g-length = refl;
    fitting = fitting_start b;
  }

  positive : 0 < p
  positive = let two = (P b).two in omega arith

  -- One output more: v holds the first i, and a / h is output i's fraction, in lowest terms, in units of 1 / g.
  module _ {i : ℕ} (li : i < b.outputs) {v : Vector} (G : Good i v) {phi psi : Series (R b)}
      (S : Solves (R b) (phi_degree (F b) (problem b points weights values)) (psi_degree (F b) 32 (problem b points weights values) (poly b v.g.c) i) 32
      (conditions (F b) 32 (poly b v.g.c) i (evaluation b points weights values)) b.rows phi psi)
      (W : LowestTerms (F b) phi psi) {a h : List ℕ} (ea : W.numerator ≡ poly b a) (eh : W.denominator ≡ poly b h)
      (ba : Bounded p 32 a) (bh : Bounded p 32 h) (lh : length_of h ≡ suc W.degree) where
    i_small : i < 4
    i_small = let n = U.enough_rows.outputs in omega arith

    h-short : length_of h ≤ 32
    h-short = length_at_most h 32 bh.within

    -- the first j numerators times h
    record Raised (j : ℕ) (r : Vector) : Type 0 where
      same-g : r.g ≡ v.g
      done : (k : ℕ) → k < j → poly b (numerator_at r k) ≡ mul_s (R b) (poly b (numerator_at v k)) (poly b h)
      rest : (k : ℕ) → j ≤ k → numerator_at r k ≡ numerator_at v k
      fitting : Fitting b r

    abbrev RaisedVerdict : ℕ → Option Vector → Type 0
    RaisedVerdict j o = MatchOption o (Unanswered (F b) 32 T) (Raised j)

    module _ (j : ℕ) (lj : j < i) (r : Vector) (H : Raised j r) where
      abbrev l : ℕ
      l = length_of (numerator_at r j)

      -- too long: there is no answer
      too_long : 0 < l → numerator_bound_of b j + 2 < l + length_of h → Unanswered (F b) 32 T
      too_long nonzero long =
          none_if_old_numerator_too_long (F b) 32 T (ample b speaking points weights values U) (capacity b speaking points weights values U) li G.candidate S W j (l - 1) lj
          (subst (λ t. HasDegree (F b) (poly b t) (l - 1)) (H.rest j (omega arith))
          (length_means p (P b) (H.fitting.numerators j) (l - 1) (let e : l ≡ suc (l - 1) = omega arith in e)))
          (omega arith)

      raised : Poly
      raised = record { c = product_of p (numerator_at r j) h }

      product : (0 < l → l + length_of h ≤ numerator_bound_of b j + 2) → poly b raised.c ≡ mul_s (R b) (poly b (numerator_at v j)) (poly b h)
      unfolding raised
      product short =
          product_means p (P b) (bounded_length (H.fitting.numerators j)) (bounded_length bh) (fits (dec_lt 0 l))
          ∙ ap (λ t. mul_s (R b) (poly b t) (poly b h)) (H.rest j (omega arith))
        where
          fits : Dec (0 < l) → l + length_of h ≤ 33
          fits (yes nonzero) = let e = short nonzero in let n = numerator_low U.enough_rows j in omega arith
          fits (no none) = let e = h-short in omega arith

      raise_one : (0 < l → l + length_of h ≤ numerator_bound_of b j + 2)
          → Raised (suc j) (record { g = r.g; f = set r.f j raised })
      unfolding raised
      raise_one short = record {
        same-g = H.same-g;
        done = λ k lk. done_at k lk (ℕ_discrete k j);
        rest = λ k lk. set_other r.f j raised k (λ e. omega arith) ∙ H.rest k (omega arith);
        fitting = fitting_set b H.fitting r.g raised j (omega (arith, i_small)) H.fitting.denominator bounded;
      }
        where
          size : j < length r.f
          size = let n = H.fitting.size in let k = i_small in omega arith

          done_at : (k : ℕ) → k < suc j → Dec (k ≡ j) → poly b (coefficients_at (set r.f j raised) k) ≡ mul_s (R b) (poly b (numerator_at v k)) (poly b h)
          done_at k lk (yes same) = rw same (ap (poly b) (set_same r.f j raised size) ∙ product short)
          done_at k lk (no other) = ap (poly b) (set_other r.f j raised k other) ∙ H.done k (omega arith)

          bounded : Bounded p (numerator_bound_of b j + 1) raised.c
          bounded = bounded_raised positive (bounded_length (H.fitting.numerators j)) (bounded_length bh) (λ nonzero. let e = short nonzero in omega arith)

      raise_decided : RaisedVerdict (suc j) (raised_at b h j r)
      unfolding raised
      raise_decided = by (dec_lt 0 l) (dec_lt (numerator_bound_of b j + 2) (l + length_of h))
        where
          fits : (0 < l → l + length_of h ≤ numerator_bound_of b j + 2) → RaisedVerdict (suc j) (raised_at b h j r)
          fits short = subst (RaisedVerdict (suc j)) (raised-fits b h j r raised short refl) (raise_one short)

          by : Dec (0 < l) → Dec (numerator_bound_of b j + 2 < l + length_of h) → RaisedVerdict (suc j) (raised_at b h j r)
          by (yes nonzero) (yes long) = subst (RaisedVerdict (suc j)) (raised_too_long b h j r nonzero long) (too_long nonzero long)
          by (no none) c = fits (λ nonzero. absurd (none nonzero))
          by (yes nonzero) (no short) = fits (λ _. omega arith)

    raise_all : (j : ℕ) → j ≤ i → RaisedVerdict j (raised_below b h j v)
    unfolding raised_below
    raise_all zero l = record {
      same-g = refl;
      done = λ k lk. absurd (omega arith);
      rest = λ k lk. refl;
      fitting = G.fitting;
    }
    raise_all (suc j) l = by (raised_below b h j v) (raise_all j (omega arith))
      where
        by : (o : Option Vector) → RaisedVerdict j o → RaisedVerdict (suc j) (option_and_then (raised_at b h j) o)
        by (Some r) H = raise_decided j (omega arith) r H
        by None unanswered = unanswered

    -- the new candidate, where everything fits
    module _ (r : Vector) (H : Raised i r) (g-fits : length_of v.g.c + length_of h ≤ b.dg + 2) (a-fits : length_of a ≤ numerator_bound_of b i + 1) where
      d : ℕ
      d = G.degree + W.degree

      last : Poly
      last = record { c = a }

      product-g : Poly
      product-g = record { c = product_of p v.g.c h }

      abbrev new : Vector
      new = record { g = product-g; f = set r.f i last }

      size : i < length r.f
      size = let n = H.fitting.size in let k = i_small in omega arith

      new_at : numerator_at new i ≡ a
      unfolding last
      new_at = set_same r.f i last size

      old_at : (j : ℕ) → j < i → numerator_at new j ≡ numerator_at r j
      old_at j l = set_other r.f i last j (λ e. omega arith)

      g_means : poly b product-g.c ≡ mul_s (R b) (poly b v.g.c) (poly b h)
      unfolding product-g
      g_means = product_means p (P b) (bounded_length G.fitting.denominator) (bounded_length bh) (let n = denominator-low U.enough_rows in omega arith)

      g_bounded : Bounded p (b.dg + 1) product-g.c
      unfolding product-g
      g_bounded = bounded_raised positive (bounded_length G.fitting.denominator) (bounded_length bh) (λ _. omega arith)

      fitting : Fitting b new
      unfolding last
      fitting = fitting_set b H.fitting product-g last i i_small g_bounded (bounded_mono (bounded_length ba) a-fits)

      extends : Extends (F b) i (λ j. poly b (numerator_at v j)) (poly b v.g.c) W.numerator W.denominator
          (λ j. poly b (numerator_at new j)) (poly b new.g.c)
      extends = record {
        new = ap (poly b) new_at ∙ sym ea;
        old = λ j l. ap (poly b) (old_at j l) ∙ H.done j l ∙ ap (mul_s (R b) (poly b (numerator_at v j))) (sym eh);
        denominator = g_means ∙ ap (mul_s (R b) (poly b v.g.c)) (sym eh);
      }

      candidate : MethodCandidate (F b) 32 T (suc i) (λ j. poly b (numerator_at new j)) (poly b new.g.c) d
      unfolding d
      candidate =
          next_candidate (F b) 32 T (ample b speaking points weights values U) (capacity b speaking points weights values U) li G.candidate S W extends
          (let e = G.g-length in omega arith)
          (λ j l k m. series_below p (P b) (fitting.numerators j) k (omega arith))

      good : Good (suc i) new
      good = record {
        degree = d;
        candidate = candidate;
        g-length = degree-length p (P b) g_bounded d (monic_degree (F b) (poly b product-g.c) d candidate.monic);
        fitting = fitting;
      }

    g_too_long : b.dg + 2 < length_of v.g.c + length_of h → Unanswered (F b) 32 T
    g_too_long long = none_if_denominator_too_long (F b) 32 T (ample b speaking points weights values U) (capacity b speaking points weights values U) li G.candidate S W (let e = G.g-length in omega arith)

    a_too_long : numerator_bound_of b i + 1 < length_of a → Unanswered (F b) 32 T
    a_too_long long = none_if_new_numerator_too_long (F b) 32 T (ample b speaking points weights values U) (capacity b speaking points weights values U) li G.candidate S W
        (λ below. let n = length_at_most a (suc (numerator_bound_of b i)) (below_bounded p (P b) ba (suc (numerator_bound_of b i)) (subst (λ f. Below (R b) f (suc (numerator_bound_of b i))) ea below)).within in omega arith)

    output_decided : (o : Option Vector) → length_of v.g.c + length_of h ≤ b.dg + 2 → length_of a ≤ numerator_bound_of b i + 1
        → RaisedVerdict i o → Verdict (suc i) (option_map (with_output b i a v.g.c h) o)
    unfolding with_output last product-g
    output_decided (Some r) g-fits a-fits H = good r H g-fits a-fits
    output_decided None g-fits a-fits unanswered = unanswered

    pub extended_decided : Verdict (suc i) (extended_of b i a h v)
    unfolding extended_of
    extended_decided = by (dec_lt (b.dg + 2) (length_of v.g.c + length_of h)) (dec_lt (numerator_bound_of b i + 1) (length_of a))
      where
        by : Dec (b.dg + 2 < length_of v.g.c + length_of h) → Dec (numerator_bound_of b i + 1 < length_of a) → Verdict (suc i) (extended_of b i a h v)
        by (yes long) y = rw (lt-ltb _ _ long) (g_too_long long)
        by (no g-fits) (yes long) =
            let short : length_of v.g.c + length_of h ≤ b.dg + 2 = omega arith in
            rw (le-ltb _ _ short, lt-ltb _ _ long) (a_too_long long)
        by (no g-fits) (no a-fits) =
            let short : length_of v.g.c + length_of h ≤ b.dg + 2 = omega arith in
            let fits : length_of a ≤ numerator_bound_of b i + 1 = omega arith in
            rw (le-ltb _ _ short, le-ltb _ _ fits) (output_decided (raised_below b h i v) short fits (raise_all i (omega arith)))
