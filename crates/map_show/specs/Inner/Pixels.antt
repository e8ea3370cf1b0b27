-- One pixel, or the mean of two, put at a place. What private functions ask and promise; no public promise cites it.
use Rattle.std.specs.Prelude.{◌≡◌, List, ℕ, ◌+◌, ◌*◌, ◌≤◌, length}

-- Pixel c of a row's bytes, of ch bytes a pixel, and room for a pixel at a place.
pub record PixelNeeded (ch : ℕ) (samples : List ℕ) (c : ℕ) (out : List ℕ) (at : ℕ) : Type 0 where
  pub inside : c * ch + ch ≤ length samples
  pub room : at + ch ≤ length out

-- The same of two pixels and their mean.
pub record MeanNeeded (ch : ℕ) (samples : List ℕ) (c d : ℕ) (out : List ℕ) (at : ℕ) : Type 0 where
  pub inside : c * ch + ch ≤ length samples
  pub beside : d * ch + ch ≤ length samples
  pub room : at + ch ≤ length out

-- Two pixels and a place of as many samples.
pub record MeansNeeded (a b out : List ℕ) : Type 0 where
  pub first : length a ≡ length out
  pub second : length b ≡ length out
