mod Unfold
