-- The 39 tags (01, 'Rows': "tag 0 to 36 as in `node_tag` .. 37 is Select .. 38 is Call"), in groups of one shape. Assumes nothing.
use Rattle.std.specs.Prelude.{ℕ, Bool, true, false, cond, eqb, ltb}

-- SMT-LIB's and the Rust's names of the tags that some rule singles out
abbrev pub t_var : ℕ
t_var = 0

abbrev pub t_const : ℕ
t_const = 1

abbrev pub t_extract : ℕ
t_extract = 14

abbrev pub t_concat : ℕ
t_concat = 15

abbrev pub t_zero_ext : ℕ
t_zero_ext = 16

abbrev pub t_sign_ext : ℕ
t_sign_ext = 17

abbrev pub t_ite : ℕ
t_ite = 18

abbrev pub t_eq : ℕ
t_eq = 19

abbrev pub t_not : ℕ
t_not = 29

abbrev pub t_bool_and : ℕ
t_bool_and = 30

abbrev pub t_bool_or : ℕ
t_bool_or = 31

abbrev pub t_bv_not : ℕ
t_bv_not = 32

abbrev pub t_neg : ℕ
t_neg = 33

abbrev pub t_select : ℕ
t_select = 37

abbrev pub t_call : ℕ
t_call = 38

-- one of two, one of three
abbrev pub either : ℕ → ℕ → ℕ → Bool
either t a b = cond (eqb t a) true (eqb t b)

abbrev pub is_un : ℕ → Bool
is_un t = cond (eqb t t_not) true (either t t_bv_not t_neg)

abbrev pub is_extend : ℕ → Bool
is_extend t = either t t_zero_ext t_sign_ext

abbrev pub is_bool : ℕ → Bool
is_bool t = either t t_bool_and t_bool_or

-- Eq 19, Ne 20, then Ult, Ule, Ugt, Uge, Slt, Sle, Sgt, Sge to 28
abbrev pub is_compare : ℕ → Bool
is_compare t = cond (ltb t 19) false (ltb t 29)
