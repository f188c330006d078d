-- What a row that is ready gives each operator, and its value by shape. Assumes nothing.
use Prim.Native.Nat.{ℕ, ◌+◌, ◌<◌, ◌≤◌, ◌^◌}
use mathlib.Core.Path.{◌≡◌, refl}
use mathlib.Core.Bool.{true}
use mathlib.Core.List.{List, [], ◌∷◌}
use native.Mathlib.Omega.{arith}
use lib.ListN.{length, get_or}
use Rattle.operate.specs.Ready.{BinReady}
use Rattle.rows.specs.declared.Node.TheVariants.{Const, Un, Bin, Extract, Extend, Ite}
use Rattle.rows.specs.Tags.{t_var, is_un, is_extend}
use Rattle.rows.specs.Decoded.{Decoded}
use Rattle.rows.proofs.View.{decoded-good, two-node}
use Rattle.value.specs.Val.{nat}
use Rattle.value.specs.Operate.{operate, op_number}
use Rattle.value.specs.Graph.{node_value}
use Rattle.value.proofs.Formed.{apart}
use Rattle.evaluate.specs.Ready.{Ready, lookup}

module _ (bits ws vs : List ℕ) where
  pub un-ready : (t a : ℕ) → Ready bits ws vs (length vs) (Un t a)
      → ((a < length ws) × (a < length vs))
      × ((is_un t ≡ true) × (0 < get_or ws a 0) × (get_or ws a 0 ≤ 64) × (get_or vs a 0 < 2 ^ get_or ws a 0))
  un-ready t a r =
      let h = r.formed.earlier.0 in
      ((omega (arith, r.rows), h), (decoded-good (Un t a) r.decoded, r.positive a h, r.narrow a, r.fits a))

  pub extend-ready : (t a n : ℕ) → Ready bits ws vs (length vs) (Extend t a n)
      → ((a < length ws) × (a < length vs))
      × ((is_extend t ≡ true) × (0 < get_or ws a 0) × (get_or ws a 0 + n ≤ 64) × (get_or vs a 0 < 2 ^ get_or ws a 0))
  extend-ready t a n r =
      let h = r.formed.earlier.0 in (
        (omega (arith, r.rows), h),
        (
          decoded-good (Extend t a n) r.decoded,
          r.positive a h,
          omega (arith, r.formed.follows, r.narrow (length vs)),
          r.fits a,
        ),
      )

  pub bin_ready : (t a b : ℕ) → Ready bits ws vs (length vs) (Bin t a b)
      → ((a < length ws) × (a < length vs) × (b < length ws) × (b < length vs))
      × BinReady t (get_or ws a 0) (get_or ws b 0)
      × ((0 < get_or ws a 0) × (get_or ws a 0 ≤ 64) × (get_or vs a 0 < 2 ^ get_or ws a 0))
      × ((0 < get_or ws b 0) × (get_or ws b 0 ≤ 64) × (get_or vs b 0 < 2 ^ get_or ws b 0))
  bin_ready t a b r =
      let h = r.formed.earlier.0 in
      let l = r.formed.earlier.1.0 in (
        (omega (arith, r.rows), h, omega (arith, r.rows), l),
        record {
          tag = two-node t (decoded-good (Bin t a b) r.decoded);
          even = r.formed.follows.even;
          sum = λ q. omega (arith, rw q at r.formed.follows.width_is, r.narrow (length vs));
        },
        (r.positive a h, r.narrow a, r.fits a),
        (r.positive b l, r.narrow b, r.fits b),
      )

  pub extract-ready : (h l a : ℕ) → Ready bits ws vs (length vs) (Extract h l a) → (a < length vs) × (l ≤ h) × (h < 64)
  extract-ready h l a r = (r.formed.earlier.0, r.formed.follows.1, omega (arith, r.formed.follows.2, r.narrow a))

  pub ite-ready : (c t e : ℕ) → Ready bits ws vs (length vs) (Ite c t e) → (c < length vs) × (t < length vs) × (e < length vs)
  ite-ready c t e r = (r.formed.earlier.0, r.formed.earlier.1.0, r.formed.earlier.1.1.0)

  pub const-ready : (s w : ℕ) → Ready bits ws vs (length vs) (Const s w) → (s + w ≤ length bits) × (w ≤ 64)
  const-ready s w r = (r.formed.follows.1, omega (arith, r.formed.follows.0, r.narrow (length vs)))

  -- the value of a core node is its operator's
  pub un-value : (x t a : ℕ) → Decoded (Un t a) → nat (node_value bits (λ j. x) (lookup ws vs) 0 (Un t a)) ≡ op_number t [] (lookup ws vs a ∷ [])
  unfolding operate
  un-value x t a g = rw (apart is_un t_var t refl (decoded-good (Un t a) g))

  pub extend-value : (x t a n : ℕ) → Decoded (Extend t a n)
      → nat (node_value bits (λ j. x) (lookup ws vs) 0 (Extend t a n)) ≡ op_number t (n ∷ []) (lookup ws vs a ∷ [])
  unfolding operate
  extend-value x t a n g = rw (apart is_extend t_var t refl (decoded-good (Extend t a n) g))

  pub bin-value : (x t a b : ℕ) → Decoded (Bin t a b)
      → nat (node_value bits (λ j. x) (lookup ws vs) 0 (Bin t a b)) ≡ op_number t [] (lookup ws vs a ∷ lookup ws vs b ∷ [])
  unfolding operate
  bin-value x t a b g = rw (decoded-good (Bin t a b) g).no-var
