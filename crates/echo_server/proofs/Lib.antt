mod Pieces
mod Echoing
mod Serving
mod Runs
mod Living
