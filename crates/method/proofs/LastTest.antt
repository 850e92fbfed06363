-- docs/METHOD.md, Why that is right: if there is an answer, it is the candidate after the last output; so that is the answer if few rows are
-- wrong for it, and else there is none.
use Prim.Native.Nat.{ℕ, suc, ◌≤◌, ◌<◌}
use native.Mathlib.Omega.{arith}
use Rattle.algebra.proofs.Series.{Series}
use Rattle.algebra.proofs.Bounds.{below_mono}
use Rattle.algebra.proofs.Field.{Field}
use Rattle.algebra.proofs.Reduced.{reduced_of_ideal}
use Rattle.method.proofs.Vectors.{SameVector, same_if_multiple}
use Rattle.method.proofs.Problem.{Problem, wrong_count, wrong_count_respects, Answer, None}
use Rattle.method.proofs.Outputs.{Candidate}

module _ (F : Field) (N : ℕ) (T : Problem F.ring) where
  open F use {ring as R}

  module _ {Fs : ℕ → Series R} {G : Series R} {d : ℕ} (C : Candidate F N T T.outputs Fs G d) where
    -- what passes the last test is an answer
    pub candidate_is_answer : wrong_count F N T.outputs Fs G T.row T.count ≤ T.errors → Answer F N T Fs G
    candidate_is_answer few = record {
      vector = record {
        numerators_below = C.numerators_below;
        denominator_below = below_mono R G (suc d) (suc T.denominator_bound) (let h = C.fits in omega arith) C.monic.low;
        degree = d;
        monic = C.monic;
        reduced = reduced_of_ideal F T.outputs Fs G C.coprime;
      };
      few_wrong = few;
    }

    answer_is_candidate : {f : ℕ → Series R} {g : Series R} → Answer F N T f g → SameVector F T.outputs f g Fs G
    answer_is_candidate {f} {g} a =
        same_if_multiple F a.vector.monic a.vector.reduced C.monic (λ i l. (suc (T.bound i), C.numerators_below i l)) (C.multiple f g a)

    pub none_if_many_wrong : T.errors < wrong_count F N T.outputs Fs G T.row T.count → None F N T
    none_if_many_wrong many f g a =
        let e = wrong_count_respects F N T.outputs (answer_is_candidate a) T.row T.count in let h = a.few_wrong in absurd (omega arith)
